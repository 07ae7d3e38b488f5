use Rattle.std.proofs.Common.{◌≡◌, ◌%◌, ◌∷◌, ℕ, length, refl, ap, ◌∙◌, arith}
use Rattle.tp_mem.proofs.Lower.{list_any, stored, touches, word_ranges}
use Rattle.tp_mem.specs.Ranges.{are_inside}
use Rattle.tp_mem.specs.Copies.{Paged}
use Rattle.tp_mem.proofs.Changes.{KeepsPages-stored}
use Rattle.tp_mem.proofs.Writes.{is_some-stored}
use Rattle.tp_mem.proofs.Written.{kept_written, lacks, refused}
use Rattle.tp_mem.proofs.Outcomes.{IsPaged-same_length, IsStored-done}
use Rattle.tp_mem.proofs.cow.CowMemory.part_and_put_all.Goals as goal

pub returns-in_default-clause-refusal : goal.returns-in_default-clause-refusal
returns-in_default-clause-refusal c =
    let same : (p : ℕ) → list_any (touches p) ((0, 0) ∷ (0, 0) ∷ word_ranges c.args.writes.now) ≡ list_any (touches p) (word_ranges c.args.writes.now) = λ p. refl in
    lacks c.args.self.now _ _ c.in_default.ensures.err.1 c.in_default.ensures.err.2 same

pub returns-clause-kept : goal.returns-clause-kept
returns-clause-kept c =
    let v = c.self.inside in
    let same : (p : ℕ) → list_any (touches p) ((0, 0) ∷ (0, 0) ∷ word_ranges c.args.writes.now) ≡ list_any (touches p) (word_ranges c.args.writes.now) = λ p. refl in
    let whole : length v.live % 4 ≡ 0 = omega (arith, c.self.invariant.whole) in
    let put = c.put_words.ensures.value in
    let keeps = KeepsPages-stored v.live c.args.writes.now c.put_words.new.self whole put in
    kept_written v.live v.shared.items v.copies.items v.pool v.is_frozen c.put_words.new.self c.args.self.now c.separate.new.self ((0, 0) ∷ (0, 0) ∷ word_ranges c.args.writes.now) (word_ranges c.args.writes.now) c.self.invariant c.self.view_is c.in-Ok.ensures.ok same keeps

pub returns-in_default-clause-stored : goal.returns-in_default-clause-stored
returns-in_default-clause-stored c =
    let memory = c.args.self.now.live in
    refused _ memory _ (is_some-stored memory c.args.writes.now c.requires.whole ∙ c.requires.inside) (ap (λ (m : Paged). m.live) c.in_default.ensures.err.0)

pub returns-clause-stored : goal.returns-clause-stored
returns-clause-stored c =
    let v = c.self.inside in
    let whole : length v.live % 4 ≡ 0 = omega (arith, c.self.invariant.whole) in
    let put = c.put_words.ensures.value in
    IsStored-done (λ m. stored m c.args.writes.now) c.args.self.now.live v.live c.put_words.new.self (ap (λ (m : Paged). m.live) (c.self.view_is ∙ c.in-Ok.ensures.ok)) put

pub put_words-requires : goal.put_words-requires
put_words-requires c =
    ap (λ n. are_inside n c.args.writes.now) (ap (λ (m : Paged). length m.live) (c.self.view_is ∙ c.in-Ok.ensures.ok)) ∙ c.requires.inside

pub invariant_of-self : goal.invariant_of-self
invariant_of-self c = IsPaged-same_length _ _ _ _ _ _ c.put_words.ensures.len c.self.invariant
