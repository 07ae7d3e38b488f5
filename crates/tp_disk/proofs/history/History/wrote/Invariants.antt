use Rattle.std.specs.Prelude.{[], ◌∷◌, ◌++◌}
use Rattle.tp_disk.proofs.history.History.wrote.Given as goal

abbrev pub ghost-of : goal.ghost-of
ghost-of a = record a._value.now.0.now.told { unsynced = a._value.now.0.now.told.unsynced ++ (a._value.now.1, a._value.now.2) ∷ [] }
