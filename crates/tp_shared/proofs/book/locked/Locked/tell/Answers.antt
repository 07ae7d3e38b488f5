use Rattle.std.proofs.Common.{◌≡◌, ◌∙◌, false, sym, ap}
use Rattle.tp_shared.specs.Frozen.{frozen_in}
use Rattle.tp_shared.specs.Told.{told_of}
use Rattle.tp_shared.specs.declared.flusher.told.Told.{Told}
use Rattle.tp_shared.proofs.Thawing.{thaws_none}
use Rattle.tp_shared.proofs.Keeping.{told_anew}
use Rattle.tp_shared.proofs.book.locked.Locked.tell.Goals as goal

pub invariant_of-self : goal.invariant_of-self
invariant_of-self g c =
    let now = told_of g.J.Naming.before g.J.Naming.first (record { book = c.self.inside.book; all = c.self.inside.roll.items; numbered_from = c.self.inside.told.value.numbered_from; frozen = frozen_in c.self.inside.seals.items }) in
    let is : c.turn.new.seal.value ≡ now = c.turn.ensures.seal ∙ c.now-now.ensures ∙ ap (told_of g.J.Naming.before g.J.Naming.first) (sym c.self.view_is) in
    told_anew c.self.invariant false c.turn.ensures.names.0 is
    (thaws_none c.turn.new.seal.value c.self.inside.seals.items (ap (λ (t : Told). t.thawed) is))
