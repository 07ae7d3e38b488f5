use Rattle.tp_law_network.proofs.Lower.{t414, has_four_links}
use Rattle.tp_law_network.proofs.Counted.{after_counted}
use Rattle.tp_law_network.proofs.ports_count_entries.Goals as goal

pub returns : goal.returns
returns c = after_counted t414 has_four_links
