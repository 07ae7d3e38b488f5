-- What the host handed in.
use Rattle.std.proofs.Common.{◌≡◌, ℕ, ◌⊎◌, inl, inr, List, [], ◌∷◌, ◌++◌, drop, Option, refl, sym, ap, subst, ◌∙◌, arith}
use Rattle.tp_run.proofs.Lower.{drop_all, Entry, NodeState, Network, handed, HasFront}
use Rattle.tp_run.specs.declared.outset.Outset.{Outset}
use Rattle.tp_run.specs.HandedOver.{ConfirmsTaken, HandedOver, HandsIn}
use Rattle.tp_run.specs.Input.{input_entries}

-- the input came first, and then nothing more or what confirms the outputs
pub hands_in : (start : Network NodeState) (journal : List Entry) (outset : Outset) (input : List ℕ) (was now : Option (List ℕ)) (old mid new : List Entry) → old ≡ [] → mid ≡ old ++ input_entries outset input
    → (new ≡ mid) ⊎ ConfirmsTaken start journal outset.port outset.confirmed was now mid new → HandsIn start journal outset input was now new
hands_in start journal outset input was now old mid new none more (inl same) = inr (inl (same ∙ more ∙ ap (λ es. es ++ input_entries outset input) none))
hands_in start journal outset input was now old mid new none more (inr C) =
    inr (inr (subst (λ es. ConfirmsTaken start journal outset.port outset.confirmed was now es new) (more ∙ ap (λ es. es ++ input_entries outset input) none) C))

-- ## Nothing

front_of_none : (all front : List Entry) → all ≡ [] → HasFront all front → front ≡ []
front_of_none all [] none F = refl
front_of_none all (e ∷ front) none F = let same = F.1 in cc

-- a journal has none of what the host handed in, if that is nothing
pub none_handed : (given journal : List Entry) (first : ℕ) → given ≡ [] → HasFront given (handed (drop first journal)) → handed (drop first journal) ≡ []
none_handed given journal first none F = front_of_none given (handed (drop first journal)) none F

pub handed_of_none : (first : ℕ) → handed (drop first []) ≡ []
handed_of_none first = ap handed (drop_all first [] (omega arith))

-- so of a run that wasn't begun
pub unhanded : (start : Network NodeState) (outset : Outset) (input : List ℕ) (was now : Option (List ℕ)) → HandedOver start [] outset input was now
unhanded start outset input was now = record { entries = []; hands = inl refl; front = ([], ap (λ es. es ++ []) (sym (handed_of_none outset.next))) }
