use Rattle.tp_program.proofs.program.answer_held.Given as goal

abbrev pub ghost-carry_out : goal.ghost-carry_out
ghost-carry_out g a = g.history
