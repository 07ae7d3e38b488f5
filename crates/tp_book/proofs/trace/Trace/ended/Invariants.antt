use Rattle.std.proofs.Common.{[]}
use Rattle.tp_book.proofs.trace.Trace.ended.Given as goal

abbrev pub ghost-of : goal.ghost-of
ghost-of a = record a._value.now.seen { frozen = []; floor = 0 }
