use Rattle.std.specs.Prelude.{[], ◌∷◌, ◌++◌}
use Rattle.tp_program.specs.Devices.{Holds}
use Rattle.tp_program.proofs.device_calls.DeviceCalls.held.Given as goal

abbrev pub ghost-of : goal.ghost-of
ghost-of a = a._value.now.0.now.told ++ Holds a._value.now.1.now a._value.now.2 a._value.now.3 ∷ []
