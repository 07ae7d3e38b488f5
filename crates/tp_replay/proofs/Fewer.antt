-- A run that ended before all its steps.
use Rattle.std.proofs.Common.{◌≡◌, ℕ, zero, suc, ◌<◌, List, [], ◌++◌, ap, ◌∙◌, arith, Some, None, Option}
use Rattle.tp_replay.proofs.Lower.{Token, ◌>>=◌, Machine, steps, bind_some}

-- the steps after the first one
abbrev goes_on : {Node : Type 0} → Machine Node → ℕ → Node × List (ℕ × Token) → Option (Node × List (ℕ × Token))
goes_on M count first = steps M count first.0 >>= λ rest. Some (rest.0, first.1 ++ rest.1)

-- if a run ends there are no more steps
pub steps_fewer : {Node : Type 0} (M : Machine Node) (made count : ℕ) (n : Node) (now : Node × List (ℕ × Token)) → steps M made n ≡ Some now → M.step now.0 ≡ None → made < count → steps M count n ≡ None
unfolding steps
steps_fewer M zero zero n now ran none fewer = absurd (omega arith)
steps_fewer {Node} M zero (suc count) n now ran none fewer =
    let same : ◌≡◌ {A = Node × List (ℕ × Token)} (n, []) now = cc in
    let here : M.step n ≡ None = ap (λ r. M.step r.0) same ∙ none in
    ap (λ o. o >>= goes_on M count) here
steps_fewer M (suc made) zero n now ran none fewer = absurd (omega arith)
steps_fewer {Node} M (suc made) (suc count) n now ran none fewer =
    let A = bind_some (M.step n) (goes_on M made) now ran in
    let B = bind_some (steps M made A.0.0) (λ rest. Some (rest.0, A.0.1 ++ rest.1)) now A.2 in
    let same : ◌≡◌ {A = Node × List (ℕ × Token)} (B.0.0, A.0.1 ++ B.0.1) now = cc in
    let last : M.step B.0.0 ≡ None = ap (λ r. M.step r.0) same ∙ none in
    let rest : steps M count A.0.0 ≡ None = steps_fewer M made count A.0.0 B.0 B.1 last (omega arith) in
    let step : steps M (suc count) n ≡ goes_on M count A.0 = ap (λ o. o >>= goes_on M count) A.1 in
    let none : goes_on M count A.0 ≡ None = ap (λ o. o >>= λ rest. Some (rest.0, A.0.1 ++ rest.1)) rest in
    step ∙ none
