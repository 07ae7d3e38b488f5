use Rattle.tp_shared.specs.Told.{told_of}
use Rattle.tp_shared.proofs.flusher.told.Told.now.Given as goal

abbrev pub ghost-of : goal.ghost-of
ghost-of g a = told_of g.J.Naming.before g.J.Naming.first a._value.now
