use Rattle.std.proofs.Common.{arith}
use Rattle.tp_views.proofs.Lower.{common_steps, drop-drop}
use Rattle.tp_views.proofs.text.image_fields.input_in.Goals as goal

pub returns-else-state-eq1 : goal.returns-else-state-eq1
returns-else-state-eq1 c = rw (drop-drop 4 c.args.at c.args.image.now) (grind (arith, common_steps))
