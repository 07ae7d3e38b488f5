-- The book of an opened device beside the nodes of its network.
use Rattle.std.proofs.Common.{◌≡◌, ℕ, zero, suc, ◌<◌, true, false, List, length, map, replicate, refl, sym, ap, subst, ◌∙◌, arith, Some, None, slice_get}
use Rattle.std.specs.Prelude.{IsSome}
use Rattle.tp_shared.proofs.Lower.{option_map, length-map, length-replicate, slice_get-map, IsNodeOfBytes, NodeContents, NetState, BookValue, agreed, nodes_in, IsWellOpen, now_of, opened_book, IsNodeOf}

replicate_at : (n i : ℕ) → i < n → slice_get (replicate n false) i ≡ Some false
replicate_at zero i h = absurd (omega (arith, h))
replicate_at (suc n) zero h = refl
replicate_at (suc n) (suc i) h = replicate_at n i (omega (arith, h))

module _ (s : NetState) (b : BookValue) (nodes : List NodeContents) (O : IsWellOpen s) (is : b ≡ opened_book s b.room) (same : map (λ n. n.live) nodes ≡ (now_of s).nodes) where
  many : length nodes ≡ length (now_of s).nodes
  many = sym (length-map nodes (λ n. n.live)) ∙ ap length same

  pub opened_count : length b.runs ≡ length nodes
  opened_count = ap (λ (x : BookValue). length x.runs) is ∙ length-replicate (length (now_of s).nodes) false ∙ sym many

  pub opened_free : (i : ℕ) → i < length nodes → slice_get b.runs i ≡ Some false
  opened_free i h = ap (λ (x : BookValue). slice_get x.runs i) is ∙ replicate_at (length (now_of s).nodes) i (let m = many in omega (arith, m, h))

  pub opened_nodes : agreed b.state ≡ (now_of s).nodes
  unfolding agreed
  opened_nodes = ap (λ (x : BookValue). agreed x.state) is ∙ ap nodes_in O.history

  pub opened_node : (i : ℕ) (n : NodeContents) → slice_get nodes i ≡ Some n → IsNodeOfBytes n.live → n.frozen ≡ None → IsNodeOf b i n
  opened_node i n at image thawed = record {
    there = ap (λ ns. slice_get ns i) (opened_nodes ∙ sym same) ∙ slice_get-map (λ (n : NodeContents). n.live) nodes i ∙ ap (option_map (λ (n : NodeContents). n.live)) at;
    image = image;
    recorded = λ some. let bad : false ≡ true = subst IsSome thawed some in cc;
    kept = λ here there h t. let bad = sym thawed ∙ h in cc;
  }
