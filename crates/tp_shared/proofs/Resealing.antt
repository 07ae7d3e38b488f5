-- One seal beside an unchanged book changes.
use Rattle.std.proofs.Common.{◌≡◌, ℕ, Bool, true, false, inl, inr, List, set, refl, sym, ap, subst, ◌∙◌, Some, None, slice_get}
use Rattle.tp_shared.proofs.Lower.{cases_eq, slice_get-set_same, slice_get-set_other, BookValue}
use Rattle.tp_shared.specs.Agreement.{Agreement}
use Rattle.tp_shared.specs.Seals.{IsSealOf, Sealed}
use Rattle.tp_shared.specs.declared.nodes.seal.NodeSeal.{NodeSeal}

some_same : (x y : NodeSeal) → Some x ≡ Some y → x ≡ y
some_same x y e = cc

pub sealed_set : (names : ℕ → ℕ) (seals : List NodeSeal) (b : BookValue) (i : ℕ) (was now : NodeSeal) → Sealed names seals b → slice_get seals i ≡ Some was
    → IsSealOf (names i) now.seal.value.state now.frozen now.seal.name b i → Sealed names (set seals i now) b
sealed_set names seals b i was now S at I j t e = elim (cases_eq j i) [
  | inl same ↦
      let is : now ≡ t = some_same now t (sym (slice_get-set_same seals i now was at) ∙ ap (slice_get (set seals i now)) (sym same) ∙ e) in
      subst (λ k. IsSealOf (names k) t.seal.value.state t.frozen t.seal.name b k) (sym same)
      (subst (λ (x : NodeSeal). IsSealOf (names i) x.seal.value.state x.frozen x.seal.name b i) is I)
  | inr other ↦ S j t (sym (slice_get-set_other seals i j now other) ∙ e)
]

-- a seal that shows what it showed
pub sealed_again : (names : ℕ → ℕ) (seals : List NodeSeal) (b : BookValue) (i : ℕ) (was now : NodeSeal) → Sealed names seals b → slice_get seals i ≡ Some was
    → now.seal.name ≡ was.seal.name → now.seal.value ≡ was.seal.value → now.frozen ≡ was.frozen → Sealed names (set seals i now) b
sealed_again names seals b i was now S at name value frozen =
    sealed_set names seals b i was now S at
    (subst (λ flag. IsSealOf (names i) now.seal.value.state flag now.seal.name b i) (sym frozen)
    (subst (λ seal_name. IsSealOf (names i) now.seal.value.state was.frozen seal_name b i) (sym name)
    (subst (λ shown. IsSealOf (names i) shown.state was.frozen was.seal.name b i) (sym value) (S i was at))))

-- a node whose pages went
pub thawed_seal : (name seal_name : ℕ) (a : Agreement) (flag : Bool) (b : BookValue) (i : ℕ) → IsSealOf name a flag seal_name b i
    → IsSealOf name (record { node = a.node; frozen = None; reserved = a.reserved; takes = a.takes }) false seal_name b i
thawed_seal name seal_name a flag b i S = record {
  named = S.named;
  node = S.node;
  recorded = λ some. absurd (let bad : false ≡ true = some in cc);
  kept = λ here there h t. cc;
  reserved = S.reserved;
  received = S.received;
  flag = refl;
}
