use Rattle.tp_law_machine.proofs.Numbers.{same_number}
use Rattle.tp_law_machine.proofs.bytes.numbers_determine_images.Goals as goal

pub returns : goal.returns
returns c = same_number
