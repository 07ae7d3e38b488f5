use Rattle.tp_program.proofs.streaming.stream_files.Given as goal

abbrev pub ghost-stream_opened : goal.ghost-stream_opened
ghost-stream_opened g a = g.history
