use Rattle.tp_ready.proofs.Dealing.{puts_back, few}
use Rattle.tp_ready.proofs.queue.ReadyQueue.put_back.Goals as goal

pub push_as-put-requires-clause-rule : goal.push_as-put-requires-clause-rule
push_as-put-requires-clause-rule g c = (puts_back _ _ _ _ c.turn.invariant.0 c.turn.invariant.1 c.turn.invariant.3, few _ _ c.turn.invariant.0)
