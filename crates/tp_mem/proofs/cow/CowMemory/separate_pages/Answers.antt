use Rattle.std.proofs.Common.{◌<◌, ◌≤◌, ◌+◌, ◌∷◌, length, get_or, set, false, not, ◌&&◌, refl, ap, sym, subst, ◌∙◌, arith, IsSome}
use Rattle.tp_mem.proofs.Lower.{word_ranges, touches, private_in, wanted_from, list_any}
use Rattle.tp_mem.specs.Copies.{Paged}
use Rattle.tp_mem.proofs.Paged.{few_flags, private_is, frozen_is, with_shared}
use Rattle.tp_mem.proofs.Touches.{parted_to-none, parted_to-all, length-parted_to, parted-next, parted-room, want}
use Rattle.tp_mem.proofs.cow.CowMemory.separate_pages.Goals as goal

pub wanted-requires-clause-few : goal.wanted-requires-clause-few
wanted-requires-clause-few c =
    let v = c.self.inside in
    rw c.deref.ensures.value (few_flags v.live v.shared.items v.copies.items v.pool v.is_frozen c.self.invariant)

pub returns-then-wanted-free-clause-err : goal.returns-then-wanted-free-clause-err
returns-then-wanted-free-clause-err c =
    let v = c.self.inside in
    let some = subst (λ (m : Paged). IsSome m.frozen) (sym c.self.view_is) c.requires.frozen in
    let private = private_is v.live v.shared.items v.copies.items v.pool v.is_frozen c.self.invariant (frozen_is v.is_frozen _ some) in
    let wanted = c.wanted.ensures ∙ ap (λ pages. wanted_from 0 pages (c.args.first ∷ c.args.block ∷ word_ranges c.args.words.now)) c.deref.ensures.value in
    (refl, rw (← c.self.view_is) (omega (arith, private, wanted, c.free.ensures, c.if-wanted-free.true)))

pub loop-page-init : goal.loop-page-init
loop-page-init c = with_shared c.args.self.now _ (parted_to-none 0 c.args.self.now.shared (c.args.first ∷ c.args.block ∷ word_ranges c.args.words.now))

pub part_touched-requires-clause-page : goal.part_touched-requires-clause-page
part_touched-requires-clause-page c =
    let ranges = c.args.first ∷ c.args.block ∷ word_ranges c.args.words.now in
    let long = ap (λ (m : Paged). length m.shared) c.self.view_is in
    omega (arith, ap (λ (m : Paged). length m.shared) c.loop-page.invariant, length-parted_to 0 c.loop-page.page c.args.self.now.shared ranges, long, c.self.inside.shared.ok.0)

pub part_touched-requires-clause-room : goal.part_touched-requires-clause-room
part_touched-requires-clause-room c =
    let v = c.self.inside in
    let ranges = c.args.first ∷ c.args.block ∷ word_ranges c.args.words.now in
    let some = subst (λ (m : Paged). IsSome m.frozen) (sym c.self.view_is) c.requires.frozen in
    let private = private_is v.live v.shared.items v.copies.items v.pool v.is_frozen c.self.invariant (frozen_is v.is_frozen _ some) in
    let wanted = c.wanted.ensures ∙ ap (λ pages. wanted_from 0 pages ranges) c.deref.ensures.value in
    let room : private_in c.args.self.now.shared + wanted_from 0 c.args.self.now.shared ranges ≤ c.args.self.now.spare =
    rw (← c.self.view_is) (omega (arith, private, wanted, c.free.ensures, c.if-wanted-free.false)) in
    let within : c.loop-page.page < length c.args.self.now.shared = omega (arith, ap (λ (m : Paged). length m.shared) c.self.view_is, c.self.inside.shared.ok.0) in
    subst (λ (m : Paged). private_in m.shared + want (get_or m.shared c.loop-page.page false) (list_any (touches c.loop-page.page) ranges) ≤ m.spare) (sym c.loop-page.invariant)
    (omega (arith, parted-room c.loop-page.page c.args.self.now.shared ranges within, room))

pub loop-page-preserved : goal.loop-page-preserved
loop-page-preserved c =
    let ranges = c.args.first ∷ c.args.block ∷ word_ranges c.args.words.now in
    let page = c.loop-page.page in
    c.part_touched.ensures ∙ ap (λ (m : Paged). record m { shared = set m.shared page (get_or m.shared page false && not (list_any (touches page) ranges)) }) c.loop-page.invariant
    ∙ ap (λ pages. record c.args.self.now { shared = pages }) (parted-next page c.args.self.now.shared ranges)

pub returns-clause-ok : goal.returns-clause-ok
returns-clause-ok c =
    let ranges = c.args.first ∷ c.args.block ∷ word_ranges c.args.words.now in
    let past : length c.args.self.now.shared ≤ c.loop-page.page = omega (arith, ap (λ (m : Paged). length m.shared) c.self.view_is, c.self.inside.shared.ok.0) in
    c.loop-page.invariant ∙ ap (λ pages. record c.args.self.now { shared = pages }) (parted_to-all 0 c.loop-page.page c.args.self.now.shared ranges past)

pub returns-clause-fits : goal.returns-clause-fits
returns-clause-fits c =
    let v = c.self.inside in
    let ranges = c.args.first ∷ c.args.block ∷ word_ranges c.args.words.now in
    let some = subst (λ (m : Paged). IsSome m.frozen) (sym c.self.view_is) c.requires.frozen in
    let private = private_is v.live v.shared.items v.copies.items v.pool v.is_frozen c.self.invariant (frozen_is v.is_frozen _ some) in
    let wanted = c.wanted.ensures ∙ ap (λ pages. wanted_from 0 pages ranges) c.deref.ensures.value in
    rw (← c.self.view_is) (omega (arith, private, wanted, c.free.ensures, c.if-wanted-free.false))
