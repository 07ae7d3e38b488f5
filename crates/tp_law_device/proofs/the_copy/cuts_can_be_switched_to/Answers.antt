use Rattle.tp_model.specs.Opening.{verdict}
use Rattle.tp_law_device.proofs.Switching.{cut_switches}
use Rattle.tp_law_device.proofs.the_copy.cuts_can_be_switched_to.Goals as goal

pub returns : goal.returns
unfolding verdict
returns c most start events first w F bytes run o cut nodes rests are has is = cut_switches most start first F bytes events w run o cut nodes rests are has is
