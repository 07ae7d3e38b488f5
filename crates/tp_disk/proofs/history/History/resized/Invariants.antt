use Rattle.tp_disk.specs.History.{with_call, Resizes}
use Rattle.tp_disk.proofs.history.History.resized.Given as goal

abbrev pub ghost-of : goal.ghost-of
ghost-of a = with_call a._value.now.0.now.told (Resizes a._value.now.1 a._value.now.2)
