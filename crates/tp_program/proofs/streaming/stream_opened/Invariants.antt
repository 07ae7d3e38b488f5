use Rattle.tp_program.proofs.streaming.stream_opened.Given as goal

abbrev pub ghost-stream : goal.ghost-stream
ghost-stream g a = g.history
