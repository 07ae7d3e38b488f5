use Rattle.tp_program.proofs.Histories.{no_history}
use Rattle.tp_tests_stream.proofs.growth.checkpointed.Given as goal

abbrev pub ghost-compact_on : goal.ghost-compact_on
ghost-compact_on g a = no_history
