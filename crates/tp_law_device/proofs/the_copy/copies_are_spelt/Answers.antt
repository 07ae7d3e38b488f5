use Rattle.tp_model.specs.Opening.{verdict}
use Rattle.tp_law_device.proofs.CanPut.{run_tail_spelt}
use Rattle.tp_law_device.proofs.the_copy.copies_are_spelt.Goals as goal

pub returns : goal.returns
unfolding verdict
returns c most start events first w F bytes run o cut nodes kept rests are has is = run_tail_spelt most start events first w F bytes run o cut nodes kept rests are has is
