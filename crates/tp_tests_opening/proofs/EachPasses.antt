-- What tests of all elements say of each.
use Rattle.std.proofs.Common.{◌≡◌, ℕ, zero, suc, List, [], ◌∷◌, Bool, true, map, sym, ap, subst, ◌∙◌, arith, Some}
use Rattle.std.specs.Prelude.{slice_get}
use Rattle.tp_tests_opening.proofs.Lower.{list_all, and_parts, ltb-true, list_all-map, NodeState, Network, PortValue, CanCount}
use Rattle.tp_tests_opening.specs.CanCount.{can_count}

passes_at : {A : Type 0} (p : A → Bool) (xs : List A) → list_all p xs ≡ true → (i : ℕ) (x : A) → slice_get xs i ≡ Some x → p x ≡ true
passes_at p [] passed i x at = cc
passes_at p (y ∷ ys) passed zero x at = let same : y ≡ x = cc in subst (λ z. p z ≡ true) same (and_parts (p y) (list_all p ys) passed).0
passes_at p (y ∷ ys) passed (suc i) x at = passes_at p ys (and_parts (p y) (list_all p ys) passed).1 i x at

pub ports_count : (values : List PortValue) (s : Network NodeState) → map (λ port. port.port) values ≡ s.ports
    → list_all (λ port. can_count port.port) values ≡ true → CanCount s
ports_count values s is passed p port at =
    let all : list_all can_count s.ports ≡ true = ap (list_all can_count) (sym is) ∙ list_all-map can_count (λ port. port.port) values ∙ passed in
    let this : can_count port ≡ true = passes_at can_count s.ports all p port at in
    omega (arith, ltb-true _ _ this)
