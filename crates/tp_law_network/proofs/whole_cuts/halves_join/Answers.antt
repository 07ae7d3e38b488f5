use Rattle.tp_model.specs.Node.{t414}
use Rattle.tp_law_network.proofs.Halves as Halves
use Rattle.tp_law_network.proofs.whole_cuts.halves_join.Goals as goal

pub returns-clause-node : goal.returns-clause-node
returns-clause-node c = Halves.node_joins t414

pub returns-clause-host : goal.returns-clause-host
returns-clause-host c = Halves.host_joins t414

pub returns-clause-begins : goal.returns-clause-begins
returns-clause-begins c = Halves.begin_joins t414

pub returns-clause-records : goal.returns-clause-records
returns-clause-records c = Halves.record_joins t414

pub returns-clause-closes : goal.returns-clause-closes
returns-clause-closes c = Halves.close_joins t414

pub returns-clause-closes_over : goal.returns-clause-closes_over
returns-clause-closes_over c = Halves.close_over_joins t414

pub returns-clause-trims : goal.returns-clause-trims
returns-clause-trims c = Halves.trim_joins t414

pub returns-clause-whole : goal.returns-clause-whole
returns-clause-whole c = Halves.whole_joins t414
