-- A run of one step at most.
use Rattle.std.proofs.Common.{◌≡◌, ◌∙◌, ℕ, zero, suc, List, [], ◌++◌, Some, None, ap, append-nil, arith, nat_eq, sym, slice_get}
use Rattle.tp_trace.proofs.Lower.{option_map, bind_some, steps, node_step, t414, NodeState, Token, why_fewer, why_most, IsWhy, Why}
use Rattle.tp_trace.specs.Steps.{Stepped, leaving, sent_by, stepped}

-- two answers that are one have one node
same_node : (a b : NodeState × List (ℕ × Token)) → Some a ≡ Some b → a.0 ≡ b.0
same_node a b same = let one : a ≡ b = cc in ap (λ (x : NodeState × List (ℕ × Token)). x.0) one

-- no step leaves the node as it was
none_made : (was now : NodeState) (out : List (ℕ × Token)) → steps t414 0 was ≡ Some (now, out) → now ≡ was
unfolding steps
none_made was now out made = sym (same_node (was, []) (now, out) made)

one_made : (was now : NodeState) (out : List (ℕ × Token)) → steps t414 1 was ≡ Some (now, out) → stepped was ≡ Some now
unfolding steps
one_made was now out made =
    let first = bind_some (node_step was) _ (now, out) made in
    let same : first.0.0 ≡ now = same_node (first.0.0, _) (now, out) first.2 in
    ap (option_map (λ (after : NodeState × List (ℕ × Token)). after.0)) first.1 ∙ ap Some same

-- The count says whether the node had a step.
pub one_step : (count : ℕ) (why : Why) (cause : Type 0) (was now : NodeState) (out : List (ℕ × Token)) → IsWhy why 1 count cause now → (cause → ⊥) → steps t414 count was ≡ Some (now, out)
    → Stepped (nat_eq count 1) was now
one_step zero why cause was now out is never made =
    let same = none_made was now out made in
    let rests = why_fewer why 1 0 cause now is never (omega arith) in
    (ap stepped (sym same) ∙ ap (option_map (λ (after : NodeState × List (ℕ × Token)). after.0)) rests, same)
one_step (suc zero) why cause was now out is never made = one_made was now out made
one_step (suc (suc count)) why cause was now out is never made =
    let most = why_most why 1 (suc (suc count)) cause now is in
    absurd (omega (arith, most))

-- ## What leaves

same_sent : (a b : NodeState × List (ℕ × Token)) → Some a ≡ Some b → a.1 ≡ b.1
same_sent a b same = let one : a ≡ b = cc in ap (λ (x : NodeState × List (ℕ × Token)). x.1) one

none_left : (was now : NodeState) (out : List (ℕ × Token)) → steps t414 0 was ≡ Some (now, out) → node_step was ≡ None → slice_get out 0 ≡ sent_by was
unfolding steps
none_left was now out made rests =
    let same : [] ≡ out = same_sent (was, []) (now, out) made in
    ap (λ (xs : List (ℕ × Token)). slice_get xs 0) (sym same) ∙ sym (ap leaving rests)

one_left : (was now : NodeState) (out : List (ℕ × Token)) → steps t414 1 was ≡ Some (now, out) → slice_get out 0 ≡ sent_by was
unfolding steps
one_left was now out made =
    let first = bind_some (node_step was) _ (now, out) made in
    let same : first.0.1 ++ [] ≡ out = same_sent (_, first.0.1 ++ []) (now, out) first.2 in
    ap (λ (xs : List (ℕ × Token)). slice_get xs 0) (sym same ∙ append-nil first.0.1) ∙ sym (ap leaving first.1)

-- What a run of one step at most sends is what leaves at the node's next step.
pub step_sends : (count : ℕ) (why : Why) (cause : Type 0) (was now : NodeState) (out : List (ℕ × Token)) → IsWhy why 1 count cause now → (cause → ⊥) → steps t414 count was ≡ Some (now, out)
    → slice_get out 0 ≡ sent_by was
step_sends zero why cause was now out is never made =
    let same = none_made was now out made in
    none_left was now out made (ap node_step (sym same) ∙ why_fewer why 1 0 cause now is never (omega arith))
step_sends (suc zero) why cause was now out is never made = one_left was now out made
step_sends (suc (suc count)) why cause was now out is never made =
    let most = why_most why 1 (suc (suc count)) cause now is in
    absurd (omega (arith, most))
