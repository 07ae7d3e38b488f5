use Rattle.std.proofs.Common.{[], ◌∷◌, ◌++◌}
use Rattle.tp_book.proofs.trace.Trace.with_entry.Given as goal

abbrev pub ghost-of : goal.ghost-of
ghost-of a = record a._value.now.0.now.seen { history = a._value.now.0.now.seen.history ++ a._value.now.1 ∷ [] }
