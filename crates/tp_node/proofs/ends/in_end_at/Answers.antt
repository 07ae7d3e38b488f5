use Rattle.std.proofs.Common.{arith}
use Rattle.tp_node.proofs.Lower.{common_steps, drop-drop}
use Rattle.tp_node.proofs.ends.in_end_at.Goals as goal

pub returns-else-bytes-at-eq1 : goal.returns-else-bytes-at-eq1
returns-else-bytes-at-eq1 c = rw (drop-drop 4 c.args.at c.args.bytes.now) (grind (arith, common_steps))
