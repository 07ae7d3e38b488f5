use Rattle.tp_model.specs.Node.{t414}
use Rattle.tp_law_network.proofs.Planned as Planned
use Rattle.tp_law_network.proofs.all_runs.store_calls_walk.Goals as goal

pub returns-clause-group : goal.returns-clause-group
returns-clause-group c = Planned.group_walks t414

pub returns-clause-cleared : goal.returns-clause-cleared
returns-clause-cleared c = Planned.clear_walks t414

pub returns-clause-pieces : goal.returns-clause-pieces
returns-clause-pieces c = Planned.pieces_walk t414

pub returns-clause-tail : goal.returns-clause-tail
returns-clause-tail c = Planned.tail_walks t414

pub returns-clause-switched : goal.returns-clause-switched
returns-clause-switched c = Planned.switch_walks t414
