use Rattle.tp_law_machine.proofs.LinkLaws.{has_four_links}
use Rattle.tp_law_machine.proofs.machine.machine_has_four_links.Goals as goal

pub returns : goal.returns
returns c = has_four_links
