-- The tokens so far are on the line.
use Rattle.std.proofs.Common.{◌≡◌, take, set}
use Rattle.tp_model.specs.Network.{on_line}
use Rattle.tp_shared.proofs.flusher.copies.copy_line.Given as goal

abbrev pub invariant-loop-at : goal.invariant-loop-at
invariant-loop-at l = l.lines ≡ set l.initial.lines l.line (take l.at (on_line l.from l.line))
