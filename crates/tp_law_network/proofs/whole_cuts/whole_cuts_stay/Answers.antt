use Rattle.tp_law_network.proofs.Lower.{has_four_links, never_marks, t414}
use Rattle.tp_law_network.proofs.Until.{stays_until}
use Rattle.tp_law_network.proofs.whole_cuts.whole_cuts_stay.Goals as goal

pub returns : goal.returns
returns c = λ w v u opened acts run cut nodes. stays_until t414 has_four_links never_marks cut nodes w v u opened acts run
