use Rattle.tp_program.proofs.program.carry_out.Given as goal

abbrev pub ghost-run_file : goal.ghost-run_file
ghost-run_file g a = g.history

abbrev pub ghost-compact_file : goal.ghost-compact_file
ghost-compact_file g a = g.history
