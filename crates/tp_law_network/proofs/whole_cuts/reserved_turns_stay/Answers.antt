use Rattle.tp_law_network.proofs.Lower.{has_four_links, never_marks, t414}
use Rattle.tp_law_network.proofs.CutsFronts.{received_after, stays_possible_after}
use Rattle.tp_law_network.proofs.whole_cuts.reserved_turns_stay.Goals as goal

pub returns-clause-received : goal.returns-clause-received
returns-clause-received c = λ w v acts run node takes others R. received_after t414 has_four_links node takes w v acts run others R

pub returns-clause-same : goal.returns-clause-same
returns-clause-same c = λ w v acts run e was now sends others may. stays_possible_after t414 has_four_links never_marks e was now sends w v acts run others may
