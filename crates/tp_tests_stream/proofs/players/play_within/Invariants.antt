use Rattle.tp_flush.specs.History.{untold}
use Rattle.tp_tests_stream.proofs.players.play_within.Given as goal

abbrev pub ghost-stream : goal.ghost-stream
ghost-stream g a = untold
