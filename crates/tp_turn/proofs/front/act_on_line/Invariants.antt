use Rattle.tp_turn.specs.Turns.{InOrder}
use Rattle.tp_turn.specs.Fronts.{AtFront}
use Rattle.tp_turn.specs.Moments.{moment_of, IsNodeOf, Done}
use Rattle.tp_turn.proofs.front.act_on_line.Given as goal

abbrev pub invariant-loop-done : goal.invariant-loop-done
invariant-loop-done l = record {
  done : Done l.number (InOrder (λ at. AtFront l.number l.line) l._done) (moment_of l.fn.book l.fn.node) (moment_of l.book l.node);
  is : IsNodeOf l.book l.number l.node;
}
