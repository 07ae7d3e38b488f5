use Rattle.std.proofs.Common.{◌≡◌, ◌∷◌, get_or, not, false, ap, sym, ◌∙◌, arith}
use Rattle.tp_mem.proofs.Lower.{list_any, touches, word_ranges}
use Rattle.tp_mem.specs.Copies.{Paged}
use Rattle.tp_mem.proofs.Paged.{at_page, with_shared}
use Rattle.tp_mem.proofs.Touches.{shared_from-untouched, zero_plus, not_true}
use Rattle.tp_mem.proofs.cow.CowMemory.have_own_pages.Goals as goal

pub returns-then-not-self : goal.returns-then-not-self
returns-then-not-self c = λ is.
    let v = c.self.inside in
    let thawed : v.is_frozen ≡ false = grind arith in
    with_shared c.args.self.now _ (shared_from-untouched 0 c.args.self.now.shared ((0, 0) ∷ (0, 0) ∷ word_ranges c.args.words.now) (λ k shared.
    let frozen = (at_page v.live v.shared.items v.copies.items v.pool v.is_frozen c.self.invariant k (ap (λ (m : Paged). get_or m.shared k false) c.self.view_is ∙ shared)).0 in
    absurd (let no = sym thawed ∙ frozen in cc)))

pub returns : goal.returns
returns c = λ is.
    let none : c.shares.result ≡ false = not_true c.shares.result (λ on. let no = sym is ∙ ap not on in absurd (cc)) in
    with_shared c.args.self.now _ (shared_from-untouched 0 c.args.self.now.shared ((0, 0) ∷ (0, 0) ∷ word_ranges c.args.words.now) (λ k shared.
    let here = ap (λ pages. get_or pages k false) c.deref.ensures.value ∙ ap (λ (m : Paged). get_or m.shared k false) c.self.view_is ∙ shared in
    ap (λ p. list_any (touches p) ((0, 0) ∷ (0, 0) ∷ word_ranges c.args.words.now)) (zero_plus k) ∙ c.shares.ensures none k here))
