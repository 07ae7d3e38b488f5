use Rattle.std.specs.Prelude.{[], ◌∷◌, ◌++◌}
use Rattle.tp_stream_files.specs.Told.{Wrote}
use Rattle.tp_stream_files.proofs.trace.Trace.wrote.Given as goal

abbrev pub ghost-of : goal.ghost-of
ghost-of a = a._value.now.0.now.told ++ Wrote a._value.now.1 a._value.now.2.now a._value.now.3 ∷ []
