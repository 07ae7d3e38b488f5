use Rattle.tp_tests_opening.specs.Usable.{IsUsable}
use Rattle.tp_tests_opening.proofs.reserve.are_rows.Given as goal

-- the book can be used
abbrev pub invariant-loop-row : goal.invariant-loop-row
invariant-loop-row l = IsUsable l.book
