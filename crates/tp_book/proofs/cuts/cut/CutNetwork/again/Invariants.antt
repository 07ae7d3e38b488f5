use Rattle.tp_book.proofs.cuts.cut.CutNetwork.again.Given as goal

abbrev pub ghost-of : goal.ghost-of
ghost-of a = a._value.now.network
