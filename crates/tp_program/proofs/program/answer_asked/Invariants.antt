use Rattle.tp_program.proofs.program.answer_asked.Given as goal

abbrev pub ghost-answer_held : goal.ghost-answer_held
ghost-answer_held g a = g.history
