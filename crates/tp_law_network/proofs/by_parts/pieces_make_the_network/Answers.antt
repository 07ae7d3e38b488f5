use Rattle.tp_law_network.proofs.Lower.{t414, has_four_links}
use Rattle.tp_law_network.proofs.Reach.{pieces_end}
use Rattle.tp_law_network.proofs.Together.{pieces_together, together_is}
use Rattle.tp_law_network.proofs.by_parts.pieces_make_the_network.Goals as goal

pub returns-clause-each : goal.returns-clause-each
returns-clause-each c = λ s t es leads has part agree. pieces_end t414 has_four_links has s part agree es t leads

pub returns-clause-joined : goal.returns-clause-joined
returns-clause-joined c = λ count pieces covers t w ends agree together. together_is count pieces covers t w ends agree together

pub returns-clause-whole : goal.returns-clause-whole
returns-clause-whole c = pieces_together t414 has_four_links
