use Rattle.tp_law_machine.proofs.LinkLaws.{keeps_flight}
use Rattle.tp_law_machine.proofs.machine.links_keep_flight.Goals as goal

pub returns : goal.returns
returns c = keeps_flight
