use Rattle.tp_recover.proofs.reading.asked.Noted.of_device.Given as goal

abbrev pub ghost-of : goal.ghost-of
ghost-of g a = g.D.Disk.state a._value.now
