use Rattle.std.proofs.Common.{◌≡◌, ◌<◌, true, false, get_or, refl, sym, ap, subst, ◌∙◌}
use Rattle.tp_model.specs.SharedPages.{private_in}
use Rattle.tp_mem.specs.Copies.{Paged}
use Rattle.tp_mem.proofs.Paged.{paged_same, page_inside, room_is, IsPaged-parted, frozen_of-parted, spare_in-parted}
use Rattle.tp_mem.proofs.cow.CowMemory.part.Goals as goal

pub unreachable-requires : goal.unreachable-requires
unreachable-requires c =
    let v = c.self.inside in
    let shared = ap (λ (m : Paged). get_or m.shared c.args.page false) c.self.view_is ∙ c.requires.shared in
    let room = subst (λ (m : Paged). private_in m.shared < m.spare) (sym c.self.view_is) c.requires.room in
    let no : false ≡ true = c.in_default.ensures.exact.1 (room_is v.live v.shared.items v.copies.items v.pool v.is_frozen c.self.invariant c.args.page shared room) in absurd (cc)

pub page_at-requires : goal.page_at-requires
page_at-requires c =
    let v = c.self.inside in
    let shared = ap (λ (m : Paged). get_or m.shared c.args.page false) c.self.view_is ∙ c.requires.shared in
    rw c.as_slice.ensures.value (page_inside v.live v.shared.items v.copies.items v.pool v.is_frozen c.self.invariant c.args.page shared)

pub invariant_of-self : goal.invariant_of-self
invariant_of-self c =
    let v = c.self.inside in let ok = c.in-Ok.ensures.ok in
    let shared = ap (λ (m : Paged). get_or m.shared c.args.page false) c.self.view_is ∙ c.requires.shared in
    let same = rw c.as_slice.ensures.value at c.page_at.ensures.value in
    IsPaged-parted v.live v.shared.items v.copies.items v.pool v.is_frozen c.self.invariant c.args.page shared c.in-Ok.id ok.0 ok.1 ok.2.0 c.page_at.result.now c.page_at.ensures.len same
    c.take.new.self c.put.new.self ok.2.2 c.put.ensures

pub returns : goal.returns
returns c =
    let v = c.self.inside in let ok = c.in-Ok.ensures.ok in
    let shared = ap (λ (m : Paged). get_or m.shared c.args.page false) c.self.view_is ∙ c.requires.shared in
    let same = rw c.as_slice.ensures.value at c.page_at.ensures.value in
    rw (← c.self.view_is) (paged_same v.live _ _ _ _ _ _
    (frozen_of-parted v.live v.shared.items v.copies.items v.pool v.is_frozen c.self.invariant c.args.page shared c.in-Ok.id ok.0 ok.1 ok.2.0 c.page_at.result.now c.page_at.ensures.len same
    c.take.new.self c.put.new.self ok.2.2 c.put.ensures)
    refl
    (spare_in-parted v.live v.shared.items v.copies.items v.pool v.is_frozen c.self.invariant c.args.page shared c.in-Ok.id ok.0 ok.1 ok.2.0 c.page_at.result.now c.page_at.ensures.len same
    c.take.new.self c.put.new.self ok.2.2 c.put.ensures))
