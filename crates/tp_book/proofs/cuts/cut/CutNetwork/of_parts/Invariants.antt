use Rattle.tp_book.specs.Parts.{network_made}
use Rattle.tp_book.proofs.cuts.cut.CutNetwork.of_parts.Given as goal

abbrev pub ghost-of : goal.ghost-of
ghost-of a = network_made a._value.now
