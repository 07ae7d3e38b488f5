use Rattle.std.proofs.Common.{◌≡◌, drop}
use Rattle.tp_model.specs.TopologyText.{other_end}
use Rattle.tp_net.proofs.declarations.other_end.Given as goal

abbrev pub invariant-loop-wire : goal.invariant-loop-wire
invariant-loop-wire l = other_end l.end (drop l.wire-index l.wires) ≡ other_end l.end l.wires
