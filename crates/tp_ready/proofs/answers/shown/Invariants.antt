use Rattle.tp_ready.proofs.answers.shown.Given as goal

abbrev pub ghost-pair : goal.ghost-pair
ghost-pair g a = g.answers
