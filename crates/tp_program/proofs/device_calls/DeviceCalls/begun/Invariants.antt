use Rattle.std.specs.Prelude.{[], ◌∷◌, ◌++◌}
use Rattle.tp_program.specs.Devices.{Begins}
use Rattle.tp_program.proofs.device_calls.DeviceCalls.begun.Given as goal

abbrev pub ghost-of : goal.ghost-of
ghost-of g a = a._value.now.0.now.told ++ Begins a._value.now.1.now (g.D.Disk.state a._value.now.2.now) ∷ []
