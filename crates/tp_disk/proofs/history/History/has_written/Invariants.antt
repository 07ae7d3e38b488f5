use Rattle.tp_disk.specs.History.{with_call, Writes}
use Rattle.tp_disk.proofs.history.History.has_written.Given as goal

abbrev pub ghost-of : goal.ghost-of
ghost-of a = with_call a._value.now.0.now.told (Writes a._value.now.1 a._value.now.2.now a._value.now.3)
