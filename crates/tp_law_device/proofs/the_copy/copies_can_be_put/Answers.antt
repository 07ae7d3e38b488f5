use Rattle.tp_model.specs.Opening.{verdict}
use Rattle.tp_law_device.proofs.CanPut.{run_tail_put}
use Rattle.tp_law_device.proofs.the_copy.copies_can_be_put.Goals as goal

pub returns : goal.returns
unfolding verdict
returns c most start events first w F bytes run o cut nodes kept rests are has is = run_tail_put most start events first w F bytes run o cut nodes kept rests are has is
