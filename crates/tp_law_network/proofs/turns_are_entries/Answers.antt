use Rattle.tp_model.specs.Node.{t414}
use Rattle.tp_law_network.proofs.Turns.{turn_is_entries, entries_are_turn, turn_fronts}
use Rattle.tp_law_network.proofs.turns_are_entries.Goals as goal

pub returns-clause-leads : goal.returns-clause-leads
returns-clause-leads c = turn_is_entries t414

pub returns-clause-possible : goal.returns-clause-possible
returns-clause-possible c = entries_are_turn t414

pub returns-clause-fronts : goal.returns-clause-fronts
returns-clause-fronts c = turn_fronts t414
