use Rattle.std.proofs.Common.{◌≡◌, ◌∷◌, get_or, false, ap, sym, ◌∙◌, arith}
use Rattle.tp_model.specs.SharedPages.{word_ranges}
use Rattle.tp_mem.specs.Copies.{Paged}
use Rattle.tp_mem.proofs.Paged.{at_page, with_shared}
use Rattle.tp_mem.proofs.Touches.{shared_from-untouched, wanted_from-untouched}
use Rattle.tp_mem.proofs.cow.CowMemory.separate.Goals as goal

pub returns-then-not-self-clause-ok : goal.returns-then-not-self-clause-ok
returns-then-not-self-clause-ok c =
    let v = c.self.inside in
    let ranges = c.args.first ∷ c.args.block ∷ word_ranges c.args.words.now in
    let thawed : v.is_frozen ≡ false = grind arith in
    with_shared c.args.self.now _ (shared_from-untouched 0 c.args.self.now.shared ranges (λ i shared.
    let frozen = (at_page v.live v.shared.items v.copies.items v.pool v.is_frozen c.self.invariant i (ap (λ (m : Paged). get_or m.shared i false) c.self.view_is ∙ shared)).0 in
    absurd (let no = sym thawed ∙ frozen in cc)))

pub returns-then-not-self-clause-fits : goal.returns-then-not-self-clause-fits
returns-then-not-self-clause-fits c =
    let v = c.self.inside in
    let ranges = c.args.first ∷ c.args.block ∷ word_ranges c.args.words.now in
    let thawed : v.is_frozen ≡ false = grind arith in
    let none = wanted_from-untouched 0 c.args.self.now.shared ranges (λ i shared.
    let frozen = (at_page v.live v.shared.items v.copies.items v.pool v.is_frozen c.self.invariant i (ap (λ (m : Paged). get_or m.shared i false) c.self.view_is ∙ shared)).0 in
    absurd (let no = sym thawed ∙ frozen in cc)) in
    omega (arith, none)
