use Rattle.std.specs.Prelude.{[], ◌∷◌, ◌++◌}
use Rattle.tp_stream_files.specs.Told.{GiveFailed}
use Rattle.tp_stream_files.proofs.trace.Trace.give_failed.Given as goal

abbrev pub ghost-of : goal.ghost-of
ghost-of a = a._value.now.told ++ GiveFailed ∷ []
