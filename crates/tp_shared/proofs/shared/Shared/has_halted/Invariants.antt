-- The book is as it was.
use Rattle.std.proofs.Common.{◌≡◌}
use Rattle.tp_shared.proofs.shared.Shared.has_halted.Given as goal

abbrev pub invariant-loop-number : goal.invariant-loop-number
invariant-loop-number g l = l.held ≡ l.fn.held
