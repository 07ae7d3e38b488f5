use Rattle.tp_law_network.proofs.Lower.{t414, t414_ends, has_four_links, never_marks, keeps_flight}
use Rattle.tp_law_network.proofs.Stops.{least_stop}
use Rattle.tp_law_network.proofs.by_parts.pieces_stop_first.Goals as goal

pub returns : goal.returns
returns c = λ s es sound unmarked count pieces parts covers agree stops at.
    least_stop t414 t414_ends has_four_links keeps_flight never_marks s sound unmarked es count pieces covers parts agree stops at
