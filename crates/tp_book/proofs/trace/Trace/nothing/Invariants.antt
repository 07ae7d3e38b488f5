use Rattle.std.proofs.Common.{[]}
use Rattle.tp_book.proofs.trace.Trace.nothing.Given as goal

abbrev pub ghost-of : goal.ghost-of
ghost-of a = record { frozen = []; history = []; floor = a._value.now }
