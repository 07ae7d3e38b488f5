use Rattle.std.proofs.Common.{◌++◌, map}
use Rattle.tp_model.specs.declared.entry.Entry.TheVariants.{HostIn}
use Rattle.tp_book.proofs.trace.Trace.with_inputs.Given as goal

abbrev pub ghost-of : goal.ghost-of
ghost-of a = record a._value.now.0.now.seen { history = a._value.now.0.now.seen.history ++ map (HostIn a._value.now.1) a._value.now.2.now }
