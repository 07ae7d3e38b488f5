use Rattle.std.proofs.Common.{subst}
use Rattle.tp_ready.specs.Sound.{Sound, item_of}
use Rattle.tp_shared.specs.Seals.{IsTied}
use Rattle.tp_shared.proofs.book.locked.Locked.audit.Goals as goal

pub returns-clause-journal : goal.returns-clause-journal
returns-clause-journal g c = subst (λ stage. IsTied g.J.Naming.first stage.all stage.book) c.self.view_is c.self.invariant.tied

pub returns-clause-sound : goal.returns-clause-sound
returns-clause-sound g c =
    let items = c.self.inside.roll.items in
    subst (λ stage. Sound (item_of g.J.Naming.first stage.all) c.args.seat.now) c.self.view_is
    (subst (Sound (item_of g.J.Naming.first items)) c.seat.view_is
    (subst (λ first. Sound (item_of first items) c.seat.inside.slips.items) c.self.invariant.first_is c.audit_all.ensures.sound))
