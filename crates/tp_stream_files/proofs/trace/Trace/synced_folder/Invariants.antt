use Rattle.std.specs.Prelude.{[], ◌∷◌, ◌++◌}
use Rattle.tp_stream_files.specs.Told.{SyncedFolder}
use Rattle.tp_stream_files.proofs.trace.Trace.synced_folder.Given as goal

abbrev pub ghost-of : goal.ghost-of
ghost-of a = a._value.now.0.now.told ++ SyncedFolder a._value.now.1.now a._value.now.2 ∷ []
