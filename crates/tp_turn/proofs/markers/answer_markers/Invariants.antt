-- The node recorded if it was asked to, and the lines so far were closed if they could be.
use Rattle.tp_turn.specs.Turns.{Then, InOrder}
use Rattle.tp_turn.specs.Moments.{moment_of, IsNodeOf, Done}
use Rattle.tp_turn.specs.Settled.{Records}
use Rattle.tp_turn.specs.Whole.{ClosesFront}
use Rattle.tp_turn.proofs.markers.answer_markers.Given as goal

abbrev pub invariant-loop-link : goal.invariant-loop-link
invariant-loop-link l = record {
  done : Done l.number (Then (Records l.number) (InOrder (λ k. ClosesFront l.number k) l.link)) (moment_of l.fn.book l.fn.node) (moment_of l.book l.node);
  is : IsNodeOf l.book l.number l.node;
}
