use Rattle.tp_model.specs.Node.{t414, t414_ends}
use Rattle.tp_law_device.proofs.Holds.{areas_keep}
use Rattle.tp_law_device.proofs.areas_hold.Goals as goal

pub returns-clause-device : goal.returns-clause-device
returns-clause-device c = areas_keep t414 t414_ends

pub returns-clause-any : goal.returns-clause-any
returns-clause-any c = areas_keep
