use Rattle.std.proofs.Common.{◌+◌, length}
use Rattle.tp_shared.specs.TrimmedTo.{trim_of}
use Rattle.tp_shared.specs.Told.{told_of}
use Rattle.tp_shared.proofs.flusher.told.Told.trimmed.Given as goal

abbrev pub ghost-of : goal.ghost-of
ghost-of g a = told_of g.J.Naming.before g.J.Naming.first (record { book = trim_of a._value.now.0.now.book; all = a._value.now.0.now.all; numbered_from = a._value.now.1.now.value.base + length a._value.now.1.now.value.net.entries; frozen = a._value.now.0.now.frozen })
