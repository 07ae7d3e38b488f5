use Rattle.tp_law_device.proofs.Inside.{tail_inside}
use Rattle.tp_law_device.proofs.the_copy.groups_stay_inside.Goals as goal

pub returns : goal.returns
returns c = tail_inside
