use Rattle.tp_disk.specs.History.{with_call, Measures}
use Rattle.tp_disk.proofs.history.History.measured.Given as goal

abbrev pub ghost-of : goal.ghost-of
ghost-of a = with_call a._value.now.0.now.told (Measures a._value.now.1)
