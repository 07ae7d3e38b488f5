use Rattle.std.proofs.Common.{None, replicate}
use Rattle.tp_book.proofs.trace.Trace.unfrozen.Given as goal

abbrev pub ghost-of : goal.ghost-of
ghost-of a = record a._value.now.0.now.seen { frozen = replicate a._value.now.1 None }
