use Rattle.tp_law_network.proofs.Lower.{t414, has_four_links}
use Rattle.tp_law_network.proofs.CanFollow.{becomes_by_itself, stops_at_fault, other_token_stops}
use Rattle.tp_law_network.proofs.by_parts.tokens_come_from_senders.Goals as goal

pub returns-clause-fault : goal.returns-clause-fault
returns-clause-fault c = λ s sound es. stops_at_fault t414 has_four_links s sound.there es

pub returns-clause-take : goal.returns-clause-take
returns-clause-take c = λ s sound xs ys line token other. other_token_stops t414 has_four_links s sound.there xs ys line token other

pub returns-clause-becomes : goal.returns-clause-becomes
returns-clause-becomes c = λ s t sound es leads process there. becomes_by_itself t414 has_four_links s sound.there t es leads process there
