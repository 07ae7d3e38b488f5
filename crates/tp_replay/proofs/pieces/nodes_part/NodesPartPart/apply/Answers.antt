use Rattle.tp_replay.proofs.Halves.{same_has}
use Rattle.tp_replay.proofs.pieces.nodes_part.NodesPartPart.apply.Goals as goal

pub returns-clause-has : goal.returns-clause-has
returns-clause-has c = same_has _ _ c.go_on.ensures.same

pub returns-clause-goes : goal.returns-clause-goes
returns-clause-goes c = c.go_on.ensures.goes
