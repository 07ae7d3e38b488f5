use Rattle.std.proofs.Common.{true}
use Rattle.tp_shared.proofs.flusher.told.Told.broken.Given as goal

abbrev pub ghost-of : goal.ghost-of
ghost-of a = record a._value.now.value { broken = true }
