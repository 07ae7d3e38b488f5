use Rattle.tp_program.proofs.Histories.{no_history, no_media}
use Rattle.tpnet.proofs.main.Given as goal

abbrev pub ghost-new : goal.ghost-new
ghost-new g a = no_media

abbrev pub ghost-answer_over : goal.ghost-answer_over
ghost-answer_over g a = no_history
