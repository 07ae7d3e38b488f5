-- The nodes with kept pages, as seals change.
use Rattle.std.proofs.Common.{◌≡◌, ℕ, zero, suc, Bool, true, false, not, inl, inr, List, [], ◌∷◌, set, refl, sym, ap, subst, ◌∙◌, Some, slice_get, get_or-set_other}
use Rattle.std.specs.Prelude.{◌&&◌}
use Rattle.tp_shared.proofs.Lower.{AllByRecursion, list_all, cases_eq, bind_some, slice_get-set_same, NodeState, t414, MarkedNetwork, IsFrozenAs, Act, happens, acted, is_trim, frozen_as_stays, has_recorded_in, BookValue, world_of}
use Rattle.tp_shared.specs.Frozen.{frozen_in, keeps_pages, none_kept, StayGone}
use Rattle.tp_shared.specs.declared.nodes.seal.NodeSeal.{NodeSeal}

some_seal : (x y : NodeSeal) → Some x ≡ Some y → x ≡ y
some_seal x y e = cc

-- ## One seal is another

pub kept_at : (seals : List NodeSeal) (i : ℕ) (s : NodeSeal) → slice_get seals i ≡ Some s → keeps_pages (frozen_in seals) i ≡ s.frozen
kept_at [] i s e = cc
kept_at (x ∷ seals) zero s e = ap (λ (y : NodeSeal). y.frozen) (some_seal x s e)
kept_at (x ∷ seals) (suc i) s e = kept_at seals i s e

pub frozen_set : (seals : List NodeSeal) (i : ℕ) (s : NodeSeal) → frozen_in (set seals i s) ≡ set (frozen_in seals) i s.frozen
frozen_set [] i s = refl
frozen_set (x ∷ seals) zero s = refl
frozen_set (x ∷ seals) (suc i) s = ap (λ (fs : List Bool). x.frozen ∷ fs) (frozen_set seals i s)

-- one with the flag that was there
pub frozen_again : (seals : List NodeSeal) (i : ℕ) (was now : NodeSeal) → slice_get seals i ≡ Some was → now.frozen ≡ was.frozen → frozen_in (set seals i now) ≡ frozen_in seals
frozen_again [] i was now at same = refl
frozen_again (x ∷ seals) zero was now at same = ap (λ (f : Bool). f ∷ frozen_in seals) (same ∙ ap (λ (y : NodeSeal). y.frozen) (sym (some_seal x was at)))
frozen_again (x ∷ seals) (suc i) was now at same = ap (λ (fs : List Bool). x.frozen ∷ fs) (frozen_again seals i was now at same)

pub gone_here : (fs : List Bool) (i : ℕ) → keeps_pages (set fs i false) i ≡ false
gone_here [] i = refl
gone_here (f ∷ fs) zero = refl
gone_here (f ∷ fs) (suc i) = gone_here fs i

-- one with the flag that no pages are kept, if none were
pub gone_set : (net : MarkedNetwork NodeState) (seals : List NodeSeal) (i : ℕ) (was now : NodeSeal) → slice_get seals i ≡ Some was
    → ((node : NodeState) → IsFrozenAs net i node → was.frozen ≡ false → now.frozen ≡ false) → StayGone net (frozen_in seals) (frozen_in (set seals i now))
gone_set net seals i was now at goes j node F gone = elim (cases_eq j i) [
  | inl same ↦
      let here = goes node (subst (λ (k : ℕ). IsFrozenAs net k node) same F) (sym (kept_at seals i was at) ∙ ap (λ (k : ℕ). keeps_pages (frozen_in seals) k) (sym same) ∙ gone) in
      ap (λ (k : ℕ). keeps_pages (frozen_in (set seals i now)) k) same ∙ kept_at (set seals i now) i now (slice_get-set_same seals i now was at) ∙ here
  | inr other ↦ ap (λ (fs : List Bool). keeps_pages fs j) (frozen_set seals i now) ∙ get_or-set_other (frozen_in seals) i j now.frozen false other ∙ gone
]

-- ## What all of them say

pub none_kept_in : (seals : List NodeSeal) → list_all (λ s. not s.frozen) seals ≡ none_kept (frozen_in seals)
none_kept_in [] = refl
none_kept_in (s ∷ seals) = ap (λ (b : Bool). not s.frozen && b) (none_kept_in seals)

pub kept_none : (seals : List NodeSeal) → AllByRecursion (λ s. s.frozen ≡ false) seals → (i : ℕ) → keeps_pages (frozen_in seals) i ≡ false
kept_none [] all i = refl
kept_none (s ∷ seals) all zero = all.0
kept_none (s ∷ seals) all (suc i) = kept_none seals all.1 i

-- the node with kept pages by its seal's flag
pub kept_there : (seals : List NodeSeal) (i : ℕ) → keeps_pages (frozen_in seals) i ≡ true → (s : NodeSeal) × (slice_get seals i ≡ Some s) × (s.frozen ≡ true)
kept_there [] i e = absurd (let bad : false ≡ true = e in cc)
kept_there (s ∷ seals) zero e = (s, refl, e)
kept_there (s ∷ seals) (suc i) e = kept_there seals i e

-- ## Nodes that have recorded

pub recorded_as : (b : BookValue) (i : ℕ) (node : NodeState) → IsFrozenAs (world_of b) i node → has_recorded_in b.state.snapshot i ≡ true
recorded_as b i node F = ap (λ given. has_recorded_in given i) F.runs ∙ F.recorded

-- a frozen image stays through acts
pub frozen_since : (acts : List Act) (w v : MarkedNetwork NodeState) → AllByRecursion (λ act. is_trim act ≡ false) acts → acted t414 w acts ≡ Some v → (i : ℕ) (node : NodeState) → IsFrozenAs w i node → IsFrozenAs v i node
unfolding acted
frozen_since [] w v none e i node F = let same : w ≡ v = cc in subst (λ n. IsFrozenAs n i node) same F
frozen_since (act ∷ acts) w v none e i node F =
    let B = bind_some (happens t414 w act) (λ u. acted t414 u acts) v e in
    frozen_since acts B.0 v none.1 B.2 i node (frozen_as_stays t414 w B.0 act i node none.0 B.1 F)
