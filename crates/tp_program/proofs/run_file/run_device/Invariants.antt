use Rattle.tp_program.proofs.run_file.run_device.Given as goal

abbrev pub ghost-run_on : goal.ghost-run_on
ghost-run_on g a = g.history
