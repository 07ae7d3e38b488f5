use Rattle.tp_law_network.proofs.Lower.{t414, has_four_links, Take}
use Rattle.tp_law_network.proofs.CanFollow.{other_token_stops}
use Rattle.tp_law_network.proofs.Rows.{stops_at_row}
use Rattle.tp_law_network.proofs.by_parts.another_token_is_refused.Goals as goal

pub returns : goal.returns
returns c = λ r rows sound xs ys line token are other.
    stops_at_row t414 r rows xs ys (Take line token) are (other_token_stops t414 has_four_links r.now sound.there xs ys line token other)
