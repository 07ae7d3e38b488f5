-- The lines so far are clear.
use Rattle.std.proofs.Common.{◌≡◌, drop}
use Rattle.std.specs.List.{list_all}
use Rattle.tp_book.specs.Clear.{is_clear}
use Rattle.tp_book.proofs.clear.are_clear.Given as goal

abbrev pub invariant-loop-line : goal.invariant-loop-line
invariant-loop-line l = list_all is_clear l.lines ≡ list_all is_clear (drop l.line l.lines)
