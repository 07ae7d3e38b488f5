use Rattle.tp_model.specs.Node.{t414}
use Rattle.tp_law_device.proofs.Frozen.{frozen_as_stays, cut_frozen}
use Rattle.tp_law_device.proofs.the_copy.frozen_images_stay.Goals as goal

pub returns-clause-stays : goal.returns-clause-stays
returns-clause-stays c = frozen_as_stays t414

pub returns-clause-cut : goal.returns-clause-cut
returns-clause-cut c = cut_frozen
