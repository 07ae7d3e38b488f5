use Rattle.tp_program.proofs.compact_file.compact_file.Given as goal

abbrev pub ghost-compact_on : goal.ghost-compact_on
ghost-compact_on g a = g.history
