use Rattle.tp_model.specs.Node.{t414}
use Rattle.tp_law_network.proofs.TurnHalves.{turn_joins}
use Rattle.tp_law_network.proofs.whole_cuts.turns_join.Goals as goal

pub returns : goal.returns
returns c = turn_joins t414
