use Rattle.std.specs.Prelude.{[], ◌∷◌, ◌++◌}
use Rattle.tp_stream_files.specs.Told.{ReadFailed}
use Rattle.tp_stream_files.proofs.trace.Trace.read_failed.Given as goal

abbrev pub ghost-of : goal.ghost-of
ghost-of a = a._value.now.0.now.told ++ ReadFailed a._value.now.1 ∷ []
