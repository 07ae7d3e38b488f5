use Rattle.std.specs.Prelude.{[], ◌∷◌, ◌++◌}
use Rattle.tp_stream_files.specs.Told.{Opened}
use Rattle.tp_stream_files.proofs.trace.Trace.opened.Given as goal

abbrev pub ghost-of : goal.ghost-of
ghost-of a = a._value.now.0.now.told ++ Opened a._value.now.1.now a._value.now.2.now a._value.now.3 ∷ []
