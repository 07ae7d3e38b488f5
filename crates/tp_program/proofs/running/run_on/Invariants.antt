use Rattle.tp_program.proofs.running.run_on.Given as goal

abbrev pub ghost-run : goal.ghost-run
ghost-run g a = g.history
