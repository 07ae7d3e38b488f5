use Rattle.tp_turn.specs.Turns.{InOrder}
use Rattle.tp_turn.specs.Hosted.{HostDone, PortAtFront}
use Rattle.tp_turn.proofs.ports.act_on_line.Given as goal

abbrev pub invariant-loop-done : goal.invariant-loop-done
invariant-loop-done l = HostDone (InOrder (λ at. PortAtFront l.line) l._done) l.fn.book l.book
