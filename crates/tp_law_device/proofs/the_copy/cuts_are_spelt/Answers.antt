use Rattle.tp_model.specs.Opening.{verdict}
use Rattle.tp_law_device.proofs.Again.{cut_spelt}
use Rattle.tp_law_device.proofs.CanPut.{run_kept_spelt}
use Rattle.tp_law_device.proofs.the_copy.cuts_are_spelt.Goals as goal

pub returns-clause-cut : goal.returns-clause-cut
returns-clause-cut c = cut_spelt

pub returns-clause-kept : goal.returns-clause-kept
unfolding verdict
returns-clause-kept c most start events first w F bytes run o rests are is = run_kept_spelt most start events first w F bytes run o rests are is
