use Rattle.tp_law_network.proofs.Lower.{has_four_links, never_marks, t414}
use Rattle.tp_law_network.proofs.Runs.{run_recovers, goes_on}
use Rattle.tp_law_network.proofs.Stay.{stays}
use Rattle.tp_law_network.proofs.all_runs.crashes_hold.Goals as goal

pub returns-clause-recovers : goal.returns-clause-recovers
returns-clause-recovers c = run_recovers t414 has_four_links never_marks

pub returns-clause-stays : goal.returns-clause-stays
returns-clause-stays c = stays t414 has_four_links never_marks

pub returns-clause-goes_on : goal.returns-clause-goes_on
returns-clause-goes_on c = goes_on t414
