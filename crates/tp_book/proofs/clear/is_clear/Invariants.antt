-- The tokens so far are Markers.
use Rattle.std.proofs.Common.{◌≡◌, drop}
use Rattle.tp_model.specs.Network.{on_line}
use Rattle.tp_book.specs.Clear.{is_clear}
use Rattle.tp_book.proofs.clear.is_clear.Given as goal

abbrev pub invariant-loop-at : goal.invariant-loop-at
invariant-loop-at l = is_clear (on_line l.lines l.line) ≡ is_clear (drop l.at (on_line l.lines l.line))
