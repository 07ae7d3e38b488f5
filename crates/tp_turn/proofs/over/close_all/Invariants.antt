-- The lines so far were closed if they could be.
use Rattle.tp_turn.specs.Turns.{InOrder}
use Rattle.tp_turn.specs.Hosted.{HostDone}
use Rattle.tp_turn.specs.Over.{ClosesOver}
use Rattle.tp_turn.proofs.over.close_all.Given as goal

abbrev pub invariant-loop-line : goal.invariant-loop-line
invariant-loop-line l = HostDone (InOrder ClosesOver l.line) l.fn.book l.book
