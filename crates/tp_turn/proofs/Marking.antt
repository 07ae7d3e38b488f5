-- What a node does at Markers before it receives.
use Rattle.std.proofs.Common.{◌≡◌, ℕ, zero, suc, ◌+◌, ◌*◌, Bool, true, false, cond, List, [], ◌∷◌, ◌++◌, refl, sym, ap, subst, ◌∙◌, add-one, append_assoc, Option, Some, None}
use Rattle.std.specs.Prelude.{◌&&◌}
use Rattle.tp_turn.proofs.Lower.{and_from, Marker, back, is_first, on_line, t414, Act, Close, happens, NodeContents, has_recorded_in, BookValue, world_of, after_close}
use Rattle.tp_turn.specs.Turns.{Then, InOrder}
use Rattle.tp_turn.specs.Moments.{TurnMoment, moment_of, IsNodeOf, Done}
use Rattle.tp_turn.specs.Whole.{close_acts, ClosesFront}
use Rattle.tp_turn.proofs.Adding.{added_none, added_more, order_none, then_more}
use Rattle.tp_turn.proofs.Fronted.{closed_added}

module _ (b : BookValue) (number link : ℕ) (n : NodeContents) (N : IsNodeOf b number n) where
  nothing_closed : close_acts b number (back b.state.start (4 * number + link)) ≡ [] → Done number (ClosesFront number link) (moment_of b n) (moment_of b n)
  nothing_closed none =
      let added = added_none number n.live b N.there in
      record { acts = []; added = added; did = record { are = sym none; added = added; node = refl } }

  -- if the node hasn't recorded
  pub front_unrecorded : has_recorded_in b.state.snapshot number ≡ false → Done number (ClosesFront number link) (moment_of b n) (moment_of b n)
  front_unrecorded not = nothing_closed (none (back b.state.start (4 * number + link)))
    where
      either : (line : ℕ) (first : Bool) → cond (first && false) (Close line ∷ []) [] ≡ []
      either line true = refl
      either line false = refl

      none : (o : Option ℕ) → close_acts b number o ≡ []
      none None = refl
      none (Some line) =
          ap (λ recorded. cond (is_first (on_line b.state.lines line) Marker && recorded) (Close line ∷ []) []) not ∙ either line (is_first (on_line b.state.lines line) Marker)

  -- if no line comes in
  pub front_unwired : back b.state.start (4 * number + link) ≡ None → Done number (ClosesFront number link) (moment_of b n) (moment_of b n)
  front_unwired to = nothing_closed (ap (close_acts b number) to)

  module _ (line : ℕ) (to : back b.state.start (4 * number + link) ≡ Some line) where
    -- if no Marker is at the front
    pub front_open : is_first (on_line b.state.lines line) Marker ≡ false → Done number (ClosesFront number link) (moment_of b n) (moment_of b n)
    front_open shut =
        nothing_closed (ap (close_acts b number) to ∙ ap (λ first. cond (first && has_recorded_in b.state.snapshot number) (Close line ∷ []) []) shut)

    -- if one is
    pub front_closed : (new : BookValue) → new ≡ after_close b line → is_first (on_line b.state.lines line) Marker ≡ true → has_recorded_in b.state.snapshot number ≡ true
        → happens t414 (world_of b) (Close line) ≡ Some (world_of new) → Done number (ClosesFront number link) (moment_of b n) (moment_of new n)
    front_closed new is first recorded act =
        let added = closed_added b new line number n is N act in
        let both = and_from (is_first (on_line b.state.lines line) Marker) (has_recorded_in b.state.snapshot number) first recorded in
        record {
          acts = Close line ∷ [];
          added = added;
          did = record { are = sym (ap (close_acts b number) to ∙ ap (λ c. cond c (Close line ∷ []) []) both); added = added; node = refl };
        }

-- one part, parts in order after it, and one more of these
pub behind_more : (number : ℕ) (one : TurnMoment → List Act → TurnMoment → Type 0) (part : ℕ → TurnMoment → List Act → TurnMoment → Type 0) (count : ℕ) (a b c : TurnMoment)
    → Done number (Then one (InOrder part count)) a b → Done number (part count) b c → Done number (Then one (InOrder part (count + 1))) a c
unfolding InOrder
behind_more number one part count a b c D E =
    subst (λ n. Done number (Then one (InOrder part n)) a c) (sym (add-one count))
    (record {
      acts = D.acts ++ E.acts;
      added = added_more number b.node.live c.node.live D.acts E.acts a.book b.book c.book D.added E.added;
      did = record {
        between = D.did.between;
        first = D.did.first;
        second = D.did.second ++ E.acts;
        are = ap (λ xs. xs ++ E.acts) D.did.are ∙ append_assoc D.did.first D.did.second E.acts;
        one_did = D.did.one_did;
        other_did = record { between = b; first = D.did.second; second = E.acts; are = refl; one_did = D.did.other_did; other_did = E.did };
      };
    })

-- one part, and then links of a node that hasn't recorded
pub behind_unrecorded : (number : ℕ) (one : TurnMoment → List Act → TurnMoment → Type 0) (a : TurnMoment) (b : BookValue) (n : NodeContents) → IsNodeOf b number n
    → has_recorded_in b.state.snapshot number ≡ false → Done number one a (moment_of b n) → (count : ℕ)
    → Done number (Then one (InOrder (λ k. ClosesFront number k) count)) a (moment_of b n)
behind_unrecorded number one a b n N not D zero =
    let here = moment_of b n in
    then_more number one (InOrder (λ k. ClosesFront number k) 0) a here here D (order_none number (λ k. ClosesFront number k) here N.there)
behind_unrecorded number one a b n N not D (suc count) =
    let here = moment_of b n in
    subst (λ done. Done number (Then one (InOrder (λ k. ClosesFront number k) done)) a here) (add-one count)
    (behind_more number one (λ k. ClosesFront number k) count a here here (behind_unrecorded number one a b n N not D count) (front_unrecorded b number count n N not))
