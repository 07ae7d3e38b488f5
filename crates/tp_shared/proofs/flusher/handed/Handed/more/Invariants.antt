use Rattle.std.proofs.Common.{◌++◌, drop}
use Rattle.tp_shared.specs.HandedIn.{handed}
use Rattle.tp_shared.proofs.flusher.handed.Handed.more.Given as goal

abbrev pub ghost-of : goal.ghost-of
ghost-of a = a._value.now.0.now.value.entries ++ handed (drop a._value.now.1.1 a._value.now.1.0.now.state.entries)
