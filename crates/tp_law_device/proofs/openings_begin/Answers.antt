use Rattle.std.proofs.Common.{refl}
use Rattle.tp_law_device.proofs.Verdicts.{verdict_sound, verdict_begins}
use Rattle.tp_law_device.proofs.openings_begin.Goals as goal

pub returns-clause-sound : goal.returns-clause-sound
returns-clause-sound c = verdict_sound

pub returns-clause-book : goal.returns-clause-book
returns-clause-book c = verdict_begins

pub returns-clause-run : goal.returns-clause-run
returns-clause-run c = λ w bytes o. refl
