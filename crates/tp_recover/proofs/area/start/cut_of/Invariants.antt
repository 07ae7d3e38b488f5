use Rattle.tp_recover.proofs.area.start.cut_of.Given as goal

abbrev pub ghost-of : goal.ghost-of
ghost-of a = a._value.now
