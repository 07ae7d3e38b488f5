use Rattle.tp_flush.specs.History.{untold}
use Rattle.tp_tests_stream.proofs.runs.run_within.Given as goal

abbrev pub ghost-run : goal.ghost-run
ghost-run g a = untold
