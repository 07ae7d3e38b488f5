use Rattle.tp_law_network.proofs.Lower.{has_four_links, t414}
use Rattle.tp_law_network.proofs.Reorder.{reorder_end}
use Rattle.tp_law_network.proofs.Swap as Swap
use Rattle.tp_law_network.proofs.whole_cuts.swaps_agree.Goals as goal

pub returns-clause-swap : goal.returns-clause-swap
returns-clause-swap c = λ s. Swap.swaps_agree t414 has_four_links s

pub returns-clause-reorder : goal.returns-clause-reorder
returns-clause-reorder c = reorder_end t414 has_four_links
