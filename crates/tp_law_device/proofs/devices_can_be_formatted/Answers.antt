use Rattle.tp_law_device.proofs.Formattable.{formattable}
use Rattle.tp_law_device.proofs.devices_can_be_formatted.Goals as goal

pub returns : goal.returns
returns c = formattable
