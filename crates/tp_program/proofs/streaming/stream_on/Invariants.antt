use Rattle.tp_program.proofs.streaming.stream_on.Given as goal

abbrev pub ghost-stream_files : goal.ghost-stream_files
ghost-stream_files g a = g.history
