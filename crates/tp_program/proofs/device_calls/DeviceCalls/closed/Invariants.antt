use Rattle.std.specs.Prelude.{[], ◌∷◌, ◌++◌}
use Rattle.tp_program.specs.Devices.{Closes}
use Rattle.tp_program.proofs.device_calls.DeviceCalls.closed.Given as goal

abbrev pub ghost-of : goal.ghost-of
ghost-of g a = a._value.now.0.now.told ++ Closes (g.D.Disk.state a._value.now.1.now) (g.D.Disk.reads a._value.now.1.now) ∷ []
