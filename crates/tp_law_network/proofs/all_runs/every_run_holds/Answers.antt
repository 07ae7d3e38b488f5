use Rattle.tp_law_network.proofs.Lower.{has_four_links, never_marks, t414}
use Rattle.tp_law_network.proofs.Swap.{swaps_agree}
use Rattle.tp_law_network.proofs.Happens.{cut_after, whole_after}
use Rattle.tp_law_network.proofs.Runs as Runs
use Rattle.tp_law_network.proofs.Acknowledged as Acknowledged
use Rattle.tp_law_network.proofs.all_runs.every_run_holds.Goals as goal

pub returns-clause-swaps : goal.returns-clause-swaps
returns-clause-swaps c = λ s. swaps_agree t414 has_four_links s

pub returns-clause-cut : goal.returns-clause-cut
returns-clause-cut c = cut_after t414 has_four_links never_marks

pub returns-clause-whole : goal.returns-clause-whole
returns-clause-whole c = whole_after t414 has_four_links never_marks

pub returns-clause-snapshots : goal.returns-clause-snapshots
returns-clause-snapshots c = Runs.snapshots t414 has_four_links never_marks

pub returns-clause-recovers : goal.returns-clause-recovers
returns-clause-recovers c = Runs.run_recovers t414 has_four_links never_marks

pub returns-clause-acknowledged : goal.returns-clause-acknowledged
returns-clause-acknowledged c = Acknowledged.acknowledged t414 has_four_links never_marks

pub returns-clause-shown : goal.returns-clause-shown
returns-clause-shown c = Acknowledged.shown t414 has_four_links never_marks
