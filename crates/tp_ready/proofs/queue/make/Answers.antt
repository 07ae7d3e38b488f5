use Rattle.std.proofs.Common.{rules}
use Rattle.tp_ready.proofs.Dealing.{makes, few}
use Rattle.tp_ready.proofs.queue.make.Goals as goal

pub push_as-requires-clause-rule : goal.push_as-requires-clause-rule
push_as-requires-clause-rule g c = rw c.requires.made (makes _ _ _ _, few _ _ (search rules))
