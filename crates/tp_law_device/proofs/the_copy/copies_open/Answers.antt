use Rattle.tp_model.specs.Opening.{verdict}
use Rattle.tp_law_device.proofs.Switch.{copy_stands, copy_opens}
use Rattle.tp_law_device.proofs.the_copy.copies_open.Goals as goal

pub returns : goal.returns
unfolding verdict
returns c bytes o copy tail groups is closed young C all sized P =
    (copy_stands bytes o copy tail groups is closed young C all sized P, copy_opens bytes o copy tail groups is closed young C all sized P)
