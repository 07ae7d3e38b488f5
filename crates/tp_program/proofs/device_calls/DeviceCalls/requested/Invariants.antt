use Rattle.std.specs.Prelude.{[], ◌∷◌, ◌++◌}
use Rattle.tp_program.specs.Devices.{Requests}
use Rattle.tp_program.proofs.device_calls.DeviceCalls.requested.Given as goal

abbrev pub ghost-of : goal.ghost-of
ghost-of a = a._value.now.0.now.told ++ Requests a._value.now.1.now a._value.now.2 ∷ []
