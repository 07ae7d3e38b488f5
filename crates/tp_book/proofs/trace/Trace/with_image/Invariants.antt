use Rattle.std.proofs.Common.{set}
use Rattle.tp_book.proofs.trace.Trace.with_image.Given as goal

abbrev pub ghost-of : goal.ghost-of
ghost-of a = record a._value.now.0.now.seen { frozen = set a._value.now.0.now.seen.frozen a._value.now.1 a._value.now.2.now.image }
