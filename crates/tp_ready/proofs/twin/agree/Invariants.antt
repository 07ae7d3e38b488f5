use Rattle.tp_ready.proofs.twin.agree.Given as goal

abbrev pub ghost-set : goal.ghost-set
ghost-set g a = a.seal.now.value
