use Rattle.std.proofs.Common.{◌≡◌, ◌<◌, ◌∷◌, [], ◌||◌, ℕ, length, false, ap, sym, subst, ◌∙◌, arith}
use Rattle.tp_mem.proofs.Lower.{list_any, offset, touches}
use Rattle.tp_mem.specs.Copies.{Paged}
use Rattle.tp_mem.proofs.Changes.{KeepsPages, KeepsPages-set_byte}
use Rattle.tp_mem.proofs.Written.{kept_written, lacks}
use Rattle.tp_mem.proofs.Outcomes.{IsPaged-same_length}
use Rattle.tp_mem.proofs.cow.CowMemory.part_and_put_byte.Goals as goal

pub returns-in_default-clause-refusal : goal.returns-in_default-clause-refusal
returns-in_default-clause-refusal c =
    let same : (p : ℕ) → list_any (touches p) ((c.offset-at.result, 1) ∷ (0, 0) ∷ []) ≡ list_any (touches p) ((offset c.args.address, 1) ∷ []) = λ p. ap (λ a. touches p (a, 1) || false) c.offset-at.ensures in
    lacks c.args.self.now _ _ c.in_default.ensures.err.1 c.in_default.ensures.err.2 same

pub returns-clause-kept : goal.returns-clause-kept
returns-clause-kept c =
    let v = c.self.inside in
    let same : (p : ℕ) → list_any (touches p) ((c.offset-at.result, 1) ∷ (0, 0) ∷ []) ≡ list_any (touches p) ((offset c.args.address, 1) ∷ []) = λ p. ap (λ a. touches p (a, 1) || false) c.offset-at.ensures in
    let within : offset c.args.address < length v.live = omega (arith, c.requires, ap (λ (m : Paged). length m.live) (c.self.view_is ∙ c.in-Ok.ensures.ok)) in
    let put = rw c.offset-at.ensures at c.put_byte.ensures.value in
    let keeps = subst (λ after. KeepsPages ((offset c.args.address, 1) ∷ []) v.live after) (sym put) (KeepsPages-set_byte v.live (offset c.args.address) c.args.byte within) in
    kept_written v.live v.shared.items v.copies.items v.pool v.is_frozen c.put_byte.new.self c.args.self.now c.separate.new.self ((c.offset-at.result, 1) ∷ (0, 0) ∷ []) ((offset c.args.address, 1) ∷ []) c.self.invariant c.self.view_is c.in-Ok.ensures.ok same keeps

pub put_byte-requires : goal.put_byte-requires
put_byte-requires c =
    omega (arith, c.requires, c.offset-at.ensures, ap (λ (m : Paged). length m.live) (c.self.view_is ∙ c.in-Ok.ensures.ok))

pub invariant_of-self : goal.invariant_of-self
invariant_of-self c = IsPaged-same_length _ _ _ _ _ _ c.put_byte.ensures.len c.self.invariant
