use Rattle.std.specs.Prelude.{[], ◌∷◌, ◌++◌}
use Rattle.tp_disk.proofs.history.History.later.Given as goal

abbrev pub ghost-of : goal.ghost-of
ghost-of a = record a._value.now.0.now.told { past = a._value.now.0.now.told.past ++ record { bytes = a._value.now.1.now; unsynced = a._value.now.0.now.told.unsynced } ∷ [] }
