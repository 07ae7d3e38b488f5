use Rattle.tp_ready.proofs.Dealing.{grows}
use Rattle.tp_ready.proofs.queue.reckon.Goals as goal

pub another-nobody-requires-clause-rule : goal.another-nobody-requires-clause-rule
another-nobody-requires-clause-rule c = rw c.loop.invariant.1 (grows _ _ _)
