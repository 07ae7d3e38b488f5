use Rattle.tp_program.proofs.program.answer_command.Given as goal

abbrev pub ghost-hold_and_stream : goal.ghost-hold_and_stream
ghost-hold_and_stream g a = g.history

abbrev pub ghost-answer_asked : goal.ghost-answer_asked
ghost-answer_asked g a = g.history
