use Rattle.tp_program.proofs.devices.FileDevices.new.Given as goal

abbrev pub ghost-of : goal.ghost-of
ghost-of g a = g.media
