use Rattle.tp_tests_opening.specs.Usable.{IsUsable}
use Rattle.tp_tests_opening.proofs.opened_books.takes.Given as goal

-- the book can be used
abbrev pub invariant-loop-number : goal.invariant-loop-number
invariant-loop-number l = IsUsable l.book
