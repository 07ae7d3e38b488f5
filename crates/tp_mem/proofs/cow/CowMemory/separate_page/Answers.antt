use Rattle.std.proofs.Common.{◌≡◌, ℕ, true, false, if◌then◌else◌, get_or, refl, ap, sym, ◌∙◌, arith}
use Rattle.tp_mem.proofs.Paged.{at_page, private_is}
use Rattle.tp_mem.proofs.cow.CowMemory.separate_page.Goals as goal

-- while a page is shared, the spare frames are the free ones and those of the pages that aren't
pub returns-then-free-eq0-clause-err : goal.returns-then-free-eq0-clause-err
returns-then-free-eq0-clause-err c =
    let v = c.self.inside in
    let shared : get_or v.shared.items c.args.page false ≡ true = ap (λ pages. get_or pages c.args.page false) (sym c.deref.ensures.value) ∙ sym c.is_shared.ensures ∙ c.if-not-is_shared.false in
    let private = private_is v.live v.shared.items v.copies.items v.pool v.is_frozen c.self.invariant (at_page v.live v.shared.items v.copies.items v.pool v.is_frozen c.self.invariant c.args.page shared).0 in
    (refl, rw (← c.self.view_is) shared, rw (← c.self.view_is) (omega (arith, private, c.free.ensures, c.if-free-eq0.true)))

pub part-requires-clause-room : goal.part-requires-clause-room
part-requires-clause-room c =
    let v = c.self.inside in
    let shared : get_or v.shared.items c.args.page false ≡ true = ap (λ pages. get_or pages c.args.page false) (sym c.deref.ensures.value) ∙ sym c.is_shared.ensures ∙ c.if-not-is_shared.false in
    let private = private_is v.live v.shared.items v.copies.items v.pool v.is_frozen c.self.invariant (at_page v.live v.shared.items v.copies.items v.pool v.is_frozen c.self.invariant c.args.page shared).0 in
    rw (← c.self.view_is) (omega (arith, private, c.free.ensures, c.if-free-eq0.false))

pub returns-clause-fits : goal.returns-clause-fits
returns-clause-fits c =
    let v = c.self.inside in
    let shared : get_or v.shared.items c.args.page false ≡ true = ap (λ pages. get_or pages c.args.page false) (sym c.deref.ensures.value) ∙ sym c.is_shared.ensures ∙ c.if-not-is_shared.false in
    let private = private_is v.live v.shared.items v.copies.items v.pool v.is_frozen c.self.invariant (at_page v.live v.shared.items v.copies.items v.pool v.is_frozen c.self.invariant c.args.page shared).0 in
    let one : (if get_or v.shared.items c.args.page false then 1 else 0) ≡ 1 = ap {B = ℕ} (λ b. if b then 1 else 0) shared in
    rw (← c.self.view_is) (omega (arith, one, private, c.free.ensures, c.if-free-eq0.false))
