-- The lines so far are copied.
use Rattle.tp_replay.specs.Copies.{Copies}
use Rattle.tp_replay.proofs.pieces.copies.copy_lines.Given as goal

abbrev pub invariant-loop-line : goal.invariant-loop-line
invariant-loop-line l = Copies l.first l.line l.from l.initial.to l.to
