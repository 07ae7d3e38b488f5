use Rattle.std.specs.Prelude.{[]}
use Rattle.tp_disk.proofs.history.History.synced.Given as goal

abbrev pub ghost-of : goal.ghost-of
ghost-of a = record a._value.now.told { unsynced = [] }
