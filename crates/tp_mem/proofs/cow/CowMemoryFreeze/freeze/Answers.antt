use Rattle.std.proofs.Common.{◌≡◌, Some, true, false, length, replicate, refl, sym, ap, subst, ◌∙◌, arith, IsNone}
use Rattle.std.proofs.lemmas.List.{length-replicate}
use Rattle.tp_mem.specs.Copies.{shared_of}
use Rattle.tp_mem.specs.Copies.{Paged}
use Rattle.tp_mem.proofs.Copies.{shared_of-none, shared_of-thawed, length-shared_of, frozen_from-none}
use Rattle.tp_mem.proofs.Paged.{paged_same, not_frozen}
use Rattle.tp_mem.proofs.cow.CowMemoryFreeze.freeze.Goals as goal

pub invariant_of-self : goal.invariant_of-self
invariant_of-self c =
    let v = c.self.inside in let i = c.self.invariant in
    let thawed = not_frozen v.is_frozen _ (subst (λ (m : Paged). IsNone m.frozen) (sym c.self.view_is) c.requires) in
    let none = i.thawed thawed in
    let pages : v.shared.len ≡ length v.copies.items = v.shared.ok.0 ∙ ap length i.flags ∙ length-shared_of v.is_frozen v.copies.items in
    record {
      whole = i.whole;
      few = i.few;
      flags = c.fill.ensures.items (λ y same. same) ∙ ap (λ n. replicate n true) pages ∙ sym (shared_of-none v.copies.items none);
      own = i.own;
      thawed = λ frozen. none;
    }

pub returns-clause-frozen : goal.returns-clause-frozen
returns-clause-frozen c =
    let v = c.self.inside in let i = c.self.invariant in
    let thawed = not_frozen v.is_frozen _ (subst (λ (m : Paged). IsNone m.frozen) (sym c.self.view_is) c.requires) in
    let none = i.thawed thawed in
    rw (← c.self.view_is) (paged_same v.live _ _ _ _ _ _ (ap Some (frozen_from-none 0 v.live v.copies.items v.pool (omega (arith, i.whole)) none)) (c.fill.ensures.items (λ y same. same) ∙ ap (λ n. replicate n true) v.shared.ok.0) refl)

pub returns-clause-thawed : goal.returns-clause-thawed
returns-clause-thawed c =
    let v = c.self.inside in let i = c.self.invariant in
    let thawed = not_frozen v.is_frozen _ (subst (λ (m : Paged). IsNone m.frozen) (sym c.self.view_is) c.requires) in
    let flags : v.shared.items ≡ replicate (length v.copies.items) false = i.flags ∙ ap (λ frozen. shared_of frozen v.copies.items) thawed ∙ shared_of-thawed v.copies.items in
    rw (← c.self.view_is) (flags ∙ ap (λ n. replicate n false) (sym (ap length flags ∙ length-replicate (length v.copies.items) false)))
