use Rattle.std.specs.Prelude.{[]}
use Rattle.tp_program.proofs.device_calls.DeviceCalls.new.Given as goal

abbrev pub ghost-of : goal.ghost-of
ghost-of a = []
