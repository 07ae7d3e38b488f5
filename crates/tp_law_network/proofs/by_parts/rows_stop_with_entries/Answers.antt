use Rattle.tp_model.specs.Node.{t414}
use Rattle.tp_law_network.proofs.PartsCounted.{readable_few}
use Rattle.tp_law_network.proofs.Rows.{rows_stop}
use Rattle.tp_law_network.proofs.by_parts.rows_stop_with_entries.Goals as goal

pub returns-clause-stop : goal.returns-clause-stop
returns-clause-stop c = rows_stop t414

pub returns-clause-few : goal.returns-clause-few
returns-clause-few c = readable_few
