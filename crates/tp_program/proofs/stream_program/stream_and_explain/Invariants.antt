use Rattle.tp_program.proofs.stream_program.stream_and_explain.Given as goal

abbrev pub ghost-stream_file : goal.ghost-stream_file
ghost-stream_file g a = g.history
