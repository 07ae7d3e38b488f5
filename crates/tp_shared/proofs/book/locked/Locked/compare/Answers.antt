use Rattle.std.proofs.Common.{subst}
use Rattle.tp_shared.specs.Frozen.{frozen_in}
use Rattle.tp_shared.specs.Told.{ToldSince, told_of}
use Rattle.tp_shared.proofs.Keeping.{told_still}
use Rattle.tp_shared.proofs.book.locked.Locked.compare.Goals as goal

pub invariant_of-self : goal.invariant_of-self
invariant_of-self g c = told_still c.self.invariant c.agree.ensures.names.0 c.agree.ensures.values.0

pub returns-clause-since : goal.returns-clause-since
returns-clause-since g c =
    let now = told_of g.J.Naming.before g.J.Naming.first (record { book = c.self.inside.book; all = c.self.inside.roll.items; numbered_from = c.self.inside.told.value.numbered_from; frozen = frozen_in c.self.inside.seals.items }) in
    subst (λ stage. ToldSince c.args.key.now.value (told_of g.J.Naming.before g.J.Naming.first stage)) c.self.view_is
    (subst (λ t. ToldSince t now) c.agree.ensures.agreed c.self.invariant.since)
