use Rattle.std.proofs.Common.{◌≡◌, ◌<◌, ◌%◌, ◌∷◌, [], ◌||◌, ℕ, length, false, ap, sym, subst, ◌∙◌, arith}
use Rattle.tp_mem.proofs.Lower.{list_any, word_offset, touches}
use Rattle.tp_mem.specs.Copies.{Paged}
use Rattle.tp_mem.proofs.Changes.{KeepsPages, KeepsPages-set_word}
use Rattle.tp_mem.proofs.Writes.{word_within}
use Rattle.tp_mem.proofs.Written.{kept_written, lacks}
use Rattle.tp_mem.proofs.Outcomes.{IsPaged-same_length}
use Rattle.tp_mem.proofs.cow.CowMemory.part_and_put_word.Goals as goal

pub returns-in_default-clause-refusal : goal.returns-in_default-clause-refusal
returns-in_default-clause-refusal c =
    let same : (p : ℕ) → list_any (touches p) ((c.word_offset-at.result, 4) ∷ (0, 0) ∷ []) ≡ list_any (touches p) ((word_offset c.args.address, 4) ∷ []) = λ p. ap (λ a. touches p (a, 4) || false) c.word_offset-at.ensures in
    lacks c.args.self.now _ _ c.in_default.ensures.err.1 c.in_default.ensures.err.2 same

pub returns-clause-kept : goal.returns-clause-kept
returns-clause-kept c =
    let v = c.self.inside in
    let same : (p : ℕ) → list_any (touches p) ((c.word_offset-at.result, 4) ∷ (0, 0) ∷ []) ≡ list_any (touches p) ((word_offset c.args.address, 4) ∷ []) = λ p. ap (λ a. touches p (a, 4) || false) c.word_offset-at.ensures in
    let within : word_offset c.args.address < length v.live = omega (arith, c.requires, ap (λ (m : Paged). length m.live) (c.self.view_is ∙ c.in-Ok.ensures.ok)) in
    let whole : length v.live % 4 ≡ 0 = omega (arith, c.self.invariant.whole) in
    let put = rw c.word_offset-at.ensures at c.put_word.ensures.value in
    let keeps = subst (λ after. KeepsPages ((word_offset c.args.address, 4) ∷ []) v.live after) (sym put) (KeepsPages-set_word v.live (word_offset c.args.address) c.args.word (word_within c.args.address (length v.live) whole within)) in
    kept_written v.live v.shared.items v.copies.items v.pool v.is_frozen c.put_word.new.self c.args.self.now c.separate.new.self ((c.word_offset-at.result, 4) ∷ (0, 0) ∷ []) ((word_offset c.args.address, 4) ∷ []) c.self.invariant c.self.view_is c.in-Ok.ensures.ok same keeps

pub put_word-requires : goal.put_word-requires
put_word-requires c =
    let there = c.self.inside.live in
    let whole : length there % 4 ≡ 0 = omega (arith, c.self.invariant.whole) in
    let within : word_offset c.args.address < length there = omega (arith, c.requires, ap (λ (m : Paged). length m.live) (c.self.view_is ∙ c.in-Ok.ensures.ok)) in
    omega (arith, c.word_offset-at.ensures, word_within c.args.address (length there) whole within)

pub invariant_of-self : goal.invariant_of-self
invariant_of-self c = IsPaged-same_length _ _ _ _ _ _ c.put_word.ensures.len c.self.invariant
