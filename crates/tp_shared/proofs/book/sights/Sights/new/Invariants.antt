use Rattle.tp_shared.proofs.book.sights.Sights.new.Given as goal

abbrev pub ghost-empty : goal.ghost-empty
ghost-empty g a = g.J.Naming.sights
