use Rattle.std.proofs.Common.{ℕ, [], ◌∷◌, ◌++◌, ap, ◌∙◌}
use Rattle.tp_shared.proofs.Lower.{Book, BookValue}
use Rattle.std.specs.declared.snapshot.Snapshot.{Snapshot}
use Rattle.tp_shared.specs.Seals.{Stage}
use Rattle.tp_shared.proofs.BrokenSeen.{sees_now, slips_since, stays_now}
use Rattle.tp_shared.proofs.Keeping.{seen_more}
use Rattle.tp_shared.proofs.book.locked.Locked.show.Goals as goal

abbrev shows : Snapshot Book → BookValue
shows s = s.value

abbrev shown : ℕ × Snapshot Book → BookValue
shown slip = slip.1.value

pub invariant_of-self : goal.invariant_of-self
invariant_of-self g c = seen_more c.self.invariant (sees_now shows _ _ _ _ c.write.ensures.roll c.of-now.ensures)

pub invariant_of-sights : goal.invariant_of-sights
invariant_of-sights g c = (
  c.write.ensures.names.1 ∙ c.sights.invariant.0,
  stays_now c.self.inside.book _ _ (sees_now shown _ _ _ _ c.write.ensures.slips c.of-now.ensures) c.sights.invariant.1
      (slips_since shows c.self.inside.book.broken _ _ _ c.write.ensures.sound c.self.invariant.seen),
)

pub returns-clause-seen : goal.returns-clause-seen
returns-clause-seen g c =
    sees_now shown _ _ _ _ c.write.ensures.slips c.of-now.ensures
    ∙ ap (λ xs. xs ++ c.self.inside.book ∷ []) c.sights.view_is
    ∙ ap (λ (s : Stage). c.args.sights.now ++ s.book ∷ []) c.self.view_is
