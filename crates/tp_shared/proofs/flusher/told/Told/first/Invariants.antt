use Rattle.std.proofs.Common.{[]}
use Rattle.tp_shared.specs.Frozen.{frozen_in}
use Rattle.tp_shared.specs.Told.{told_of}
use Rattle.tp_shared.proofs.flusher.told.Told.first.Given as goal

abbrev pub ghost-of : goal.ghost-of
ghost-of g a = told_of g.J.Naming.before g.J.Naming.first (record { book = a._value.now.book; all = []; numbered_from = g.J.Naming.first; frozen = frozen_in a._value.now.seals })
