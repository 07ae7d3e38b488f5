use Rattle.std.proofs.Common.{◌≡◌, drop}
use Rattle.tp_model.specs.Topology.{all_lead_back}
use Rattle.tp_net.proofs.rules.all_lead_back.Given as goal

-- what is left decides
abbrev pub invariant-loop-line : goal.invariant-loop-line
invariant-loop-line l = all_lead_back l.nodes l.ports l.wires l.line (drop l.line l.wires) ≡ all_lead_back l.nodes l.ports l.wires 0 l.wires
