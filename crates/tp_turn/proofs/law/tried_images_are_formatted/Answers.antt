use Rattle.tp_turn.proofs.Formatted.{formatted, not_formatted}
use Rattle.tp_turn.proofs.law.tried_images_are_formatted.Goals as goal

pub returns-clause-tried : goal.returns-clause-tried
returns-clause-tried c = formatted

pub returns-clause-refused : goal.returns-clause-refused
returns-clause-refused c = not_formatted
