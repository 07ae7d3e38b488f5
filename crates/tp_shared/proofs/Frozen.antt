-- The image of a node that recorded, under the book's lock.
use Rattle.std.proofs.Common.{◌≡◌, ◌≢◌, inl, inr, ℕ, zero, suc, ◌+◌, ◌*◌, ◌<◌, true, cond, List, [], ◌∷◌, length, get_or, set, take, drop, refl, sym, ap, subst, ◌∙◌, arith, Option, Some, None, slice_get, get_or-set_other, get_or-set_same}
use Rattle.std.specs.Prelude.{◌-◌, IfSome, is_some, slice_range}
use Rattle.tp_shared.proofs.Lower.{option_map, cases_lt, ne_eqb, PAGE_BYTES, NodeState, t414, OfNode, OfHost, own, Snapshot, MarkedNetwork, has_recorded, IsFrozenAs, has_four_links, own-node, CutInvariant, as_recorded, mid_nodes, running, has_recorded_in, BookValue, agreed, world_of, running_in}
use Rattle.tp_shared.specs.Pieces.{AreFrozenPages, ArePagesOf, IsPageOf}
use Rattle.tp_shared.proofs.Sealing.{get_within}

node_there : (o : Option NodeState) (n : NodeState) → option_map OfNode o ≡ option_map OfNode (Some n) → o ≡ Some n
node_there None n e = cc
node_there (Some x) n e = cc

at_some : (xs : List (Option NodeState)) (i : ℕ) (n : NodeState) → get_or xs i None ≡ Some n → slice_get xs i ≡ Some (Some n)
at_some [] i n e = cc
at_some (x ∷ xs) zero n e = ap Some e
at_some (x ∷ xs) (suc i) n e = at_some xs i n e

module _ (w : MarkedNetwork NodeState) (H : CutInvariant t414 w) (i : ℕ) (below : i < length w.live.nodes) where
  -- a node that has recorded has an image
  image_there : (snap : Snapshot) → w.snapshot ≡ Some snap → has_recorded snap i ≡ true → (n : NodeState) × (get_or w.frozen i None ≡ Some n)
  image_there snap runs recorded =
      let K = running t414 w H snap runs in
      let N = get_within K.mid.nodes i (omega (arith, below, mid_nodes t414 has_four_links w H.base snap K)) in
      let apart : i ≢ length K.mid.nodes = λ e. omega (arith, e, below, mid_nodes t414 has_four_links w H.base snap K) in (
        N.0,
        node_there (get_or w.frozen i None) N.0
            (ap (λ b. cond b (Some (OfHost snap.ports)) (option_map OfNode (get_or w.frozen i None))) (sym (ne_eqb i (length w.live.nodes) (λ e. omega (arith, e, below))))
            ∙ ap (λ b. cond b (as_recorded (length w.live.nodes) snap w.frozen i) (own w.live i)) (sym recorded)
            ∙ sym (K.owns i)
            ∙ own-node K.mid i apart
            ∙ ap (option_map OfNode) N.1),
      )

-- what is kept of a node that has recorded is its image
pub kept_frozen : (b : BookValue) (i : ℕ) (node : NodeState) → CutInvariant t414 (world_of b) → i < length (agreed b.state) → has_recorded_in b.state.snapshot i ≡ true
    → ((there : NodeState) → get_or b.frozen i None ≡ Some there → node ≡ there) → IsFrozenAs (world_of b) i node
kept_frozen b i node H below recorded kept =
    let R = running_in b.state.snapshot i recorded in
    let I = image_there (world_of b) H i below R.0 R.1 R.2 in
    record {
      snap = R.0;
      runs = R.1;
      recorded = R.2;
      is = at_some b.frozen i node (I.1 ∙ ap Some (sym (kept I.0 I.1)));
    }

-- ## Pages of the frozen node

-- none yet
pub pages_none : (o : Option NodeState) (first : ℕ) (out : List (List ℕ)) → IfSome o (λ node. ArePagesOf node.memory first 0 out)
pages_none None first out = tt
pages_none (Some node) first out = λ k low. absurd (omega (arith, low))

-- one more, after those that were copied
pub pages_more : (o : Option NodeState) (first k pages : ℕ) (out : List (List ℕ)) (page : List ℕ) → k < length out → first + k < pages → IfSome o (λ node. length node.memory ≡ PAGE_BYTES * pages)
    → IfSome o (λ node. ArePagesOf node.memory first k out) → IfSome o (λ node. page ≡ slice_range node.memory (PAGE_BYTES * (first + k)) (PAGE_BYTES * (first + k) + PAGE_BYTES))
    → IfSome o (λ node. ArePagesOf node.memory first (k + 1) (set out k page))
pages_more None first k pages out page there low long are is = tt
pages_more (Some node) first k pages out page there low long are is = λ j last. elim (cases_lt j k) [
  | inl before ↦ subst (IsPageOf node.memory (first + j)) (sym (get_or-set_other out k j page [] (λ e. omega (arith, e, before)))) (are j before)
  | inr from ↦
      let here : j ≡ k = omega (arith, last, from) in
      let size : PAGE_BYTES * (first + k) + PAGE_BYTES - PAGE_BYTES * (first + k) ≡ PAGE_BYTES = omega arith in
      subst (λ (n : ℕ). IsPageOf node.memory (first + n) (get_or (set out k page) n [])) (sym here) (record {
        there = omega (arith, long, low);
        is = get_or-set_same out k page [] there ∙ is ∙ ap (λ n. take n (drop (PAGE_BYTES * (first + k)) node.memory)) size;
      })
]

-- they are the pages of the node as it is frozen
pub pages_frozen : (o : Option NodeState) (net : MarkedNetwork NodeState) (i first count : ℕ) (out : List (List ℕ)) → is_some o ≡ true → IfSome o (λ node. ArePagesOf node.memory first count out)
    → ((node : NodeState) → o ≡ Some node → IsFrozenAs net i node) → AreFrozenPages net i first count out
pages_frozen None net i first count out some are frozen = cc
pages_frozen (Some node) net i first count out some are frozen = λ k low. record { node = node; frozen = frozen node refl; there = (are k low).there; is = (are k low).is }
