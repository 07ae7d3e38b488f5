use Rattle.std.specs.Prelude.{[], ◌∷◌, ◌++◌}
use Rattle.tp_stream_files.specs.Told.{Gave}
use Rattle.tp_stream_files.proofs.trace.Trace.gave.Given as goal

abbrev pub ghost-of : goal.ghost-of
ghost-of a = a._value.now.0.now.told ++ Gave a._value.now.1.now ∷ []
