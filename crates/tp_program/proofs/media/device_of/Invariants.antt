use Rattle.tp_program.proofs.media.device_of.Given as goal

abbrev pub ghost-new : goal.ghost-new
ghost-new g a = g.medium
