use Rattle.tp_program.proofs.run_file.run_file.Given as goal

abbrev pub ghost-run_device : goal.ghost-run_device
ghost-run_device g a = g.history
