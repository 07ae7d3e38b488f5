use Rattle.std.proofs.Common.{subst}
use Rattle.tp_shared.proofs.Lower.{HostDone, ClosesAll}
use Rattle.tp_shared.proofs.Closing.{hosted_closes}
use Rattle.tp_shared.proofs.Keeping.{hosted_still}
use Rattle.tp_shared.proofs.book.locked.Locked.close_all.Goals as goal

pub invariant_of-self : goal.invariant_of-self
invariant_of-self g c =
    let b = c.self.inside.book in
    let new = c.close_all.new.book in
    hosted_still c.self.invariant (hosted_closes b new c.close_all.ensures)

pub returns-clause-done : goal.returns-clause-done
returns-clause-done g c = subst (λ stage. HostDone ClosesAll stage.book c.close_all.new.book) c.self.view_is c.close_all.ensures
