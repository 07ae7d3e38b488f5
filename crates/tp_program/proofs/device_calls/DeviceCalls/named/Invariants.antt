use Rattle.std.specs.Prelude.{[], ◌∷◌, ◌++◌}
use Rattle.tp_program.specs.Devices.{Links}
use Rattle.tp_program.proofs.device_calls.DeviceCalls.named.Given as goal

abbrev pub ghost-of : goal.ghost-of
ghost-of a = a._value.now.0.now.told ++ Links a._value.now.1.now a._value.now.2.now ∷ []
