use Rattle.std.specs.Prelude.{[], ◌∷◌, ◌++◌}
use Rattle.tp_stream_files.specs.Told.{Synced}
use Rattle.tp_stream_files.proofs.trace.Trace.synced.Given as goal

abbrev pub ghost-of : goal.ghost-of
ghost-of a = a._value.now.0.now.told ++ Synced a._value.now.1 ∷ []
