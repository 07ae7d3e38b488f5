-- One step more after others.
use Rattle.std.proofs.Common.{◌≡◌, ℕ, zero, suc, ◌+◌, List, [], ◌++◌, Some, refl, sym, ap, ◌∙◌, arith}
use Rattle.tp_node.proofs.Lower.{append-nil, append_assoc, Token, ◌>>=◌, Machine, steps, NodeState, Kept, kept_behind, node_step, t414, node_ranges, kept_behind_steps, bind_some}

pub one_more : {Node : Type 0} (M : Machine Node) (count : ℕ) (n m : Node) (sent : List (ℕ × Token)) (after : Node × List (ℕ × Token))
    → steps M count n ≡ Some (m, sent) → M.step m ≡ Some after → steps M (count + 1) n ≡ Some (after.0, sent ++ after.1)
unfolding steps
one_more {Node} M zero n m sent after are next =
    let same : ◌≡◌ {A = Node × List (ℕ × Token)} (n, []) (m, sent) = cc in
    let first : M.step n ≡ Some after = ap (λ (p : Node × List (ℕ × Token)). M.step p.0) same ∙ next in
    let empty : [] ≡ sent = ap (λ (p : Node × List (ℕ × Token)). p.1) same in
    rw (first, append-nil after.1, ← empty) refl
one_more {Node} M (suc count) n m sent after are next =
    let one = bind_some (M.step n) (λ first. steps M count first.0 >>= λ rest. Some (rest.0, first.1 ++ rest.1)) (m, sent) are in
    let first = one.0 in
    let others = bind_some (steps M count first.0) (λ rest. Some (rest.0, first.1 ++ rest.1)) (m, sent) one.2 in
    let rest = others.0 in
    let same : ◌≡◌ {A = Node × List (ℕ × Token)} (rest.0, first.1 ++ rest.1) (m, sent) = cc in
    let last : M.step rest.0 ≡ Some after = ap (λ (p : Node × List (ℕ × Token)). M.step p.0) same ∙ next in
    let whole : first.1 ++ rest.1 ≡ sent = ap (λ (p : Node × List (ℕ × Token)). p.1) same in
    let more : steps M (count + 1) first.0 ≡ Some (after.0, rest.1 ++ after.1) = one_more M count first.0 rest.0 rest.1 after others.1 last in
    let number : suc count + 1 ≡ suc (count + 1) = omega arith in
    let together : first.1 ++ (rest.1 ++ after.1) ≡ sent ++ after.1 = sym (append_assoc first.1 rest.1 after.1) ∙ ap (λ xs. xs ++ after.1) whole in
    rw (number, one.1, more) (ap (λ xs. Some (after.0, xs)) together)

-- what is kept after one step more
pub kept_one_more : (count : ℕ) (n m : NodeState) (sent : List (ℕ × Token)) (after : NodeState × List (ℕ × Token)) (kept : Kept)
    → steps t414 count n ≡ Some (m, sent) → node_step m ≡ Some after → kept_behind_steps (count + 1) n kept ≡ kept_behind (kept_behind_steps count n kept) (node_ranges m)
unfolding steps
kept_one_more zero n m sent after kept are next =
    let same : ◌≡◌ {A = NodeState × List (ℕ × Token)} (n, []) (m, sent) = cc in
    let here : n ≡ m = ap (λ (p : NodeState × List (ℕ × Token)). p.0) same in
    let first : node_step n ≡ Some after = ap node_step here ∙ next in
    rw (first, here) refl
kept_one_more (suc count) n m sent after kept are next =
    let one = bind_some (node_step n) (λ first. steps t414 count first.0 >>= λ rest. Some (rest.0, first.1 ++ rest.1)) (m, sent) are in
    let first = one.0 in
    let others = bind_some (steps t414 count first.0) (λ rest. Some (rest.0, first.1 ++ rest.1)) (m, sent) one.2 in
    let rest = others.0 in
    let same : ◌≡◌ {A = NodeState × List (ℕ × Token)} (rest.0, first.1 ++ rest.1) (m, sent) = cc in
    let here : rest.0 ≡ m = ap (λ (p : NodeState × List (ℕ × Token)). p.0) same in
    let last : node_step rest.0 ≡ Some after = ap node_step here ∙ next in
    let more = kept_one_more count first.0 rest.0 rest.1 after (kept_behind kept (node_ranges n)) others.1 last in
    let number : suc count + 1 ≡ suc (count + 1) = omega arith in
    rw (number, one.1) (more ∙ ap (λ node. kept_behind (kept_behind_steps count first.0 (kept_behind kept (node_ranges n))) (node_ranges node)) here)
