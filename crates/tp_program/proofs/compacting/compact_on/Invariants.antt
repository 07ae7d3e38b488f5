use Rattle.tp_program.proofs.compacting.compact_on.Given as goal

abbrev pub ghost-compact : goal.ghost-compact
ghost-compact g a = g.history
