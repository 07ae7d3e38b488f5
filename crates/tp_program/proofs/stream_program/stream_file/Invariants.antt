use Rattle.tp_program.proofs.stream_program.stream_file.Given as goal

abbrev pub ghost-stream_on : goal.ghost-stream_on
ghost-stream_on g a = g.history
