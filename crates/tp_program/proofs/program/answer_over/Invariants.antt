use Rattle.tp_program.proofs.program.answer_over.Given as goal

abbrev pub ghost-answer_command : goal.ghost-answer_command
ghost-answer_command g a = g.history
