use Rattle.std.proofs.Common.{inr, refl}
use Rattle.tp_words.proofs.device_args.asked_run.Goals as goal

pub returns-in_default-clause-refused : goal.returns-in_default-clause-refused
returns-in_default-clause-refused c = inr (refl, c.only.ensures.none c.in_default.is)
