use Rattle.std.specs.Prelude.{[], ◌∷◌, ◌++◌}
use Rattle.tp_stream_files.specs.Told.{Measured}
use Rattle.tp_stream_files.proofs.trace.Trace.measured.Given as goal

abbrev pub ghost-of : goal.ghost-of
ghost-of a = a._value.now.0.now.told ++ Measured a._value.now.1 ∷ []
