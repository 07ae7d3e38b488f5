use Rattle.std.proofs.Common.{◌≡◌, take}
use Rattle.tp_flush.proofs.topology.copied_wires.Given as goal

abbrev pub invariant-loop-end : goal.invariant-loop-end
invariant-loop-end l = l.copy.items ≡ take l.end-index l.wires
