-- All that turns do leads from one network to the other.
use Rattle.std.proofs.Common.{◌≡◌, ℕ, zero, suc, ◌+◌, ◌*◌, Bool, true, false, List, length, sym, ap, ◌∙◌, Option, Some, None, ◌%◌}
use Rattle.std.specs.Prelude.{◌==◌}
use Rattle.tp_turn.proofs.Lower.{Entry, NodeState, t414, Network, back, after, after_front}
use Rattle.tp_turn.specs.Turns.{Then, InOrder}
use Rattle.tp_turn.specs.TrialTurns.{TookBack, TookIn, IsTurnOf, AreTurns}

took_in_leads : (o : Option ℕ) (s t : Network NodeState) (es : List Entry) → TookBack o s es t → after t414 s es ≡ Some t
unfolding after
took_in_leads None s t es D = ap (after t414 s) D.0 ∙ ap Some (sym D.1)
took_in_leads (Some line) s t es D = D.took.leads

then_leads : (one other : Network NodeState → List Entry → Network NodeState → Type 0) → ((s t : Network NodeState) (es : List Entry) → one s es t → after t414 s es ≡ Some t)
    → ((s t : Network NodeState) (es : List Entry) → other s es t → after t414 s es ≡ Some t) → (s t : Network NodeState) (es : List Entry) → Then one other s es t → after t414 s es ≡ Some t
then_leads one other first second s t es D =
    ap (after t414 s) D.are ∙ after_front t414 s D.between D.first D.second (first s D.between D.first D.one_did) ∙ second D.between t D.second D.other_did

order_leads : (act : ℕ → Network NodeState → List Entry → Network NodeState → Type 0) → ((k : ℕ) (s t : Network NodeState) (es : List Entry) → act k s es t → after t414 s es ≡ Some t)
    → (n : ℕ) (s t : Network NodeState) (es : List Entry) → InOrder act n s es t → after t414 s es ≡ Some t
unfolding InOrder after
order_leads act each zero s t es D = ap (after t414 s) D.0 ∙ ap Some (sym D.1)
order_leads act each (suc n) s t es D = then_leads (InOrder act n) (act n) (λ s t es. order_leads act each n s t es) (λ s t es. each n s t es) s t es D

links_lead : (first n : ℕ) (s t : Network NodeState) (es : List Entry) → InOrder (λ k. TookIn (first + k)) n s es t → after t414 s es ≡ Some t
links_lead first n s t es D = order_leads (λ k. TookIn (first + k)) (λ k s t es D. took_in_leads (back s (first + k)) s t es D) n s t es D

turn_leads : (quantum : ℕ) (of_node : Bool) (s t : Network NodeState) (es : List Entry) → IsTurnOf quantum of_node s es t → after t414 s es ≡ Some t
turn_leads quantum true s t es D = D.leads
turn_leads quantum false s t es D = links_lead (4 * length s.nodes) (length s.ports) s t es D

pub turns_lead : (quantum turns : ℕ) (s t : Network NodeState) (es : List Entry) → AreTurns quantum turns s es t → after t414 s es ≡ Some t
turns_lead quantum turns s t es D = order_leads (λ number. IsTurnOf quantum (number % 2 == 0)) (λ k s t es D. turn_leads quantum (k % 2 == 0) s t es D) turns s t es D
