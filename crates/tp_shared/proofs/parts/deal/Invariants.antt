use Rattle.std.proofs.Common.{length}
use Rattle.tp_shared.specs.Parted.{IsDealt}
use Rattle.tp_shared.proofs.parts.deal.Given as goal

abbrev pub invariant-loop-node : goal.invariant-loop-node
invariant-loop-node l = IsDealt l.book l.seals.items l.dealt (length l.yielded)
