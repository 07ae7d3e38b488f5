use Rattle.tp_program.proofs.stream_program.hold_and_stream.Given as goal

abbrev pub ghost-stream_and_explain : goal.ghost-stream_and_explain
ghost-stream_and_explain g a = g.history
