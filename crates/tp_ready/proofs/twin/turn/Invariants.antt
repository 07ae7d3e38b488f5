use Rattle.tp_ready.proofs.twin.turn.Given as goal

abbrev pub ghost-set : goal.ghost-set
ghost-set g a = a._by.now
