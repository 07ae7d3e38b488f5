use Rattle.std.specs.Prelude.{[], ◌∷◌, ◌++◌}
use Rattle.tp_program.specs.Devices.{Reads}
use Rattle.tp_program.proofs.device_calls.DeviceCalls.read.Given as goal

abbrev pub ghost-of : goal.ghost-of
ghost-of a = a._value.now.0.now.told ++ Reads a._value.now.1.now a._value.now.2.now ∷ []
