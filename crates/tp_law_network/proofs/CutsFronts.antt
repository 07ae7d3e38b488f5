-- An entry that is possible stays so, and does what it did, whatever others do.
use Rattle.std.proofs.Common.{◌≡◌, ◌≢◌, ℕ, zero, suc, ◌≤◌, arith, cond, inl, inr, List, [], ◌∷◌, ◌++◌, length, set, refl, sym, ap, subst, ◌∙◌, Some}
use Rattle.tp_law_network.proofs.Lower.{AllByRecursion, cases_eq, cases_lt, Token, Entry, Machine, Network, Own, own, has_wire, on_line, taken, sent, for_line, Received, by_link, by_line, incoming, comes_in, process, takes, does, HasFourLinks, unmarked, NeverMarks, MarkedNetwork, taker, host_markers, node_markers, all_some, whole, Act, Begin, Record, Journal, Close, Trim, happens, acted}
use Rattle.tp_law_network.proofs.Lines.{for_line-here, for_line-other, taken-sent, taken_both, taken_from, on_taken, on_set_same, on_set_other}
use Rattle.tp_law_network.proofs.Local.{Step, step_of, step_takes, step_lines, step_shape, step_own_other, process_same, process_kept, takes_same, takes_own, turn_own}
use Rattle.tp_law_network.proofs.Plain.{does_unmarked, unmarked_links, unmarked_moved}
use Rattle.tp_law_network.proofs.Marks.{AreUnmarked, HasNoMarker}
use Rattle.tp_law_network.proofs.Partial.{bind_some}
use Rattle.tp_law_network.specs.Reserved.{MayBeMade, IsOfOthers, IsNotOf, IsReceived}
use Rattle.tp_law_network.proofs.Acts.{begin_parts, record_parts, close_parts, journal_parts, trim_parts}

-- a Marker is taken out from after tokens that are none
unmarked-behind : (us vs : List Token) → HasNoMarker us → unmarked (us ++ vs) ≡ us ++ unmarked vs
unmarked-behind [] vs all = refl
unmarked-behind (u ∷ us) vs all = ap (λ b. cond b (us ++ vs) (u ∷ unmarked (us ++ vs))) all.0 ∙ ap (λ ts. u ∷ ts) (unmarked-behind us vs all.1)

none_on_line : (l : ℕ) (ms : List (ℕ × Token)) → AreUnmarked ms → HasNoMarker (for_line l ms)
none_on_line l [] all = tt
none_on_line l (m ∷ ms) all = elim (cases_eq m.0 l) [
  | inl same ↦ subst (λ k. HasNoMarker (for_line k (m ∷ ms))) same (subst (λ ts. HasNoMarker ts) (sym (for_line-here m.0 m.1 ms)) (all.0, subst (λ k. HasNoMarker (for_line k ms)) (sym same) (none_on_line l ms all.1)))
  | inr other ↦ subst (λ ts. HasNoMarker ts) (sym (for_line-other m.0 l m.1 ms other)) (none_on_line l ms all.1)
]

set_past : {A : Type 0} (xs : List A) (i : ℕ) (x : A) → length xs ≤ i → set xs i x ≡ xs
set_past [] i x h = refl
set_past (y ∷ ys) zero x h = absurd (omega arith)
set_past (y ∷ ys) (suc i) x h = ap (λ zs. y ∷ zs) (set_past ys i x (omega (arith, h)))

-- what could be taken can still be taken after a Marker was
taken_unmarked : (lines : List (List Token)) (line : ℕ) (ms : List (ℕ × Token)) (out : List (List Token)) → AreUnmarked ms → taken lines ms ≡ Some out
    → (rest : List (List Token)) × (taken (set lines line (unmarked (on_line lines line))) ms ≡ Some rest)
taken_unmarked lines line ms out all e = taken_from (set lines line (unmarked (on_line lines line))) ms front
  where
    front : (l : ℕ) → (rest : List Token) × (on_line (set lines line (unmarked (on_line lines line))) l ≡ for_line l ms ++ rest)
    front l = elim (cases_eq l line) [
      | inl same ↦ elim (cases_lt line (length lines)) [
        | inl below ↦ (
          unmarked (on_line out line),
          ap (on_line (set lines line (unmarked (on_line lines line)))) same ∙ on_set_same lines line (unmarked (on_line lines line)) below
              ∙ ap unmarked (on_taken lines ms out e line) ∙ unmarked-behind (for_line line ms) (on_line out line) (none_on_line line ms all)
              ∙ ap (λ k. for_line k ms ++ unmarked (on_line out line)) (sym same),
        )
        | inr past ↦ (
          on_line out l,
          ap (λ ls. on_line ls l) (set_past lines line (unmarked (on_line lines line)) past) ∙ on_taken lines ms out e l,
        )
      ]
      | inr other ↦ (on_line out l, on_set_other lines line l (unmarked (on_line lines line)) other ∙ on_taken lines ms out e l)
    ]

module _ {Node : Type 0} (M : Machine Node) (four : HasFourLinks M) (never : NeverMarks M) (s : Network Node) (e : Entry) (was now : Own Node) (sends : List (ℕ × Token)) (may : MayBeMade M s e was now sends) where
  made_takes_own : AllByRecursion (λ m. taker s m.0 ≡ process s.wires (length s.nodes) e) (takes s.wires (length s.nodes) e)
  made_takes_own = takes_own M s e was (now, sends) may.change

  -- over other lines, with the same wires, nodes and ports
  over_lines : (lines : List (List Token)) → (rest : List (List Token)) × (taken lines (takes s.wires (length s.nodes) e) ≡ Some rest) → MayBeMade M (record s { lines = lines }) e was now sends
  unfolding own
  over_lines lines T = record {
    out = T.0;
    front = ap (λ ms. taken lines ms) (takes_same s (record s { lines = lines }) refl refl e) ∙ T.1;
    there = ap (own (record s { lines = lines })) (process_same s (record s { lines = lines }) refl refl e) ∙ may.there;
    change = may.change;
  }

  -- after Markers were sent
  after_sent : (ms : List (ℕ × Token)) → MayBeMade M (record s { lines = sent (has_wire s.wires) s.lines ms }) e was now sends
  after_sent ms = over_lines (sent (has_wire s.wires) s.lines ms) (sent (has_wire s.wires) may.out ms, taken-sent (has_wire s.wires) s.lines (takes s.wires (length s.nodes) e) ms may.out may.front)

  after_close : (line : ℕ) → MayBeMade M (record s { lines = set s.lines line (unmarked (on_line s.lines line)) }) e was now sends
  after_close line = over_lines (set s.lines line (unmarked (on_line s.lines line))) (taken_unmarked s.lines line (takes s.wires (length s.nodes) e) may.out (does_unmarked M never s e was (now, sends) may.change).0 may.front)

  -- after an entry of another process
  after_entry : (f : Entry) (t : Network Node) → process s.wires (length s.nodes) f ≢ process s.wires (length s.nodes) e → Step M s f t → MayBeMade M t e was now sends
  after_entry f t apart S =
      let shape = step_shape M four s f t S in
      let B = taken_both (taker s) (process s.wires (length s.nodes) f) (process s.wires (length s.nodes) e) s.lines (takes s.wires (length s.nodes) f) (takes s.wires (length s.nodes) e) S.out may.out apart (step_takes M four s f t S) made_takes_own S.takes_out may.front in
      record {
        out = sent (has_wire s.wires) B.0 S.sends;
        front = ap (λ ls. taken ls (takes t.wires (length t.nodes) e)) (step_lines M four s f t S) ∙ ap (λ ms. taken (sent (has_wire s.wires) S.out S.sends) ms) (takes_same s t shape.wires shape.nodes e)
            ∙ taken-sent (has_wire s.wires) S.out (takes s.wires (length s.nodes) e) S.sends B.0 B.1;
        there = ap (own t) (process_kept s t shape e) ∙ step_own_other M four s f t S (process s.wires (length s.nodes) e) (λ h. apart (sym h)) ∙ may.there;
        change = ap (λ wires. does M wires (length t.nodes) e was) shape.wires ∙ ap (λ N. does M s.wires N e was) shape.nodes ∙ may.change;
      }

-- the processes of entries stay
abbrev SameOwners : {Node : Type 0} → Network Node → Network Node → Type 0
SameOwners s t = (f : Entry) → process t.wires (length t.nodes) f ≡ process s.wires (length s.nodes) f

module _ {Node : Type 0} (M : Machine Node) (four : HasFourLinks M) (never : NeverMarks M) (e : Entry) (was now : Own Node) (sends : List (ℕ × Token)) where
  pub stays_possible : (w v : MarkedNetwork Node) (act : Act) → happens M w act ≡ Some v → IsOfOthers w.live e act → MayBeMade M w.live e was now sends
      → MayBeMade M v.live e was now sends × SameOwners w.live v.live
  unfolding happens
  stays_possible w v Begin h others may =
      let P = begin_parts w v w.snapshot h in
      let tokens = host_markers (length w.live.nodes) (length w.live.ports) in
      subst (λ u. MayBeMade M u.live e was now sends × SameOwners w.live u.live) P.1
      (after_sent M four never w.live e was now sends may tokens, process_same w.live (record w.live { lines = sent (has_wire w.live.wires) w.live.lines tokens }) refl refl)
  stays_possible w v (Record i) h others may =
      let P = record_parts w v w.snapshot i h in
      subst (λ u. MayBeMade M u.live e was now sends × SameOwners w.live u.live) P.4
      (after_sent M four never w.live e was now sends may (node_markers i), process_same w.live (record w.live { lines = sent (has_wire w.live.wires) w.live.lines (node_markers i) }) refl refl)
  stays_possible w v (Journal f) h others may =
      let P = journal_parts w v M f h in
      let S = step_of M w.live f P.0 P.1 in
      subst (λ u. MayBeMade M u.live e was now sends × SameOwners w.live u.live) P.2
      (after_entry M four never w.live e was now sends may f P.0 others S, process_kept w.live P.0 (step_shape M four w.live f P.0 S))
  stays_possible w v (Close line) h others may =
      let P = close_parts w v w.snapshot line h in
      subst (λ u. MayBeMade M u.live e was now sends × SameOwners w.live u.live) P.4
      (after_close M four never w.live e was now sends may line, process_same w.live (record w.live { lines = set w.live.lines line (unmarked (on_line w.live.lines line)) }) refl refl)
  stays_possible w v Trim h others may =
      let P = trim_parts w v (whole w) (all_some w.frozen) h in
      subst (λ u. MayBeMade M u.live e was now sends × SameOwners w.live u.live) P.4 (may, λ f. refl)

  others_still : (s t : Network Node) → SameOwners s t → (acts : List Act) → AllByRecursion (IsOfOthers s e) acts → AllByRecursion (IsOfOthers t e) acts
  others_still s t same [] all = tt
  others_still s t same (act ∷ acts) all = (one act all.0, others_still s t same acts all.1)
    where
      one : (act : Act) → IsOfOthers s e act → IsOfOthers t e act
      one Begin h = tt
      one (Record i) h = tt
      one (Journal f) h = λ is. h (sym (same f) ∙ is ∙ same e)
      one (Close line) h = tt
      one Trim h = tt

  -- An entry that is possible stays so, and does what it did, whatever others do.
  pub stays_possible_after : (w v : MarkedNetwork Node) (acts : List Act) → acted M w acts ≡ Some v → AllByRecursion (IsOfOthers w.live e) acts → MayBeMade M w.live e was now sends → MayBeMade M v.live e was now sends
  unfolding acted
  stays_possible_after w v [] h all may = let is : w ≡ v = cc in subst (λ u. MayBeMade M u.live e was now sends) is may
  stays_possible_after w v (act ∷ acts) h all may =
      let F = bind_some (happens M w act) (λ u. acted M u acts) v h in
      let one = stays_possible w F.0 act F.1 all.0 may in
      stays_possible_after F.0 v acts F.2 (others_still w.live F.0.live one.1 acts all.1) one.0

-- ## Tokens that were received stay at the front

module _ {Node : Type 0} (M : Machine Node) (four : HasFourLinks M) (i : ℕ) (links : List Received) where
  abbrev tokens : Network Node → List (ℕ × Token)
  tokens s = by_line s.wires (length s.nodes) i (by_link 0 links)

  tokens_unmarked : (s : Network Node) → AreUnmarked (tokens s)
  tokens_unmarked s = unmarked_moved (incoming s.wires (length s.nodes) i) (by_link 0 links) (unmarked_links 0 links)

  -- over other lines, with the same wires and as many nodes
  received_over : (s t : Network Node) → t.wires ≡ s.wires → length t.nodes ≡ length s.nodes → (R : IsReceived s i links)
      → (rest : List (List Token)) × (taken t.lines (tokens s) ≡ Some rest) → IsReceived t i links
  received_over s t w n R T = record {
    into = ap (λ ws. comes_in ws (length t.nodes) i (by_link 0 links)) w ∙ ap (λ N. comes_in s.wires N i (by_link 0 links)) n ∙ R.into;
    out = T.0;
    front = ap (λ ws. taken t.lines (by_line ws (length t.nodes) i (by_link 0 links))) w ∙ ap (λ N. taken t.lines (by_line s.wires N i (by_link 0 links))) n ∙ T.1;
  }

  pub received_stays : (w v : MarkedNetwork Node) (act : Act) → happens M w act ≡ Some v → IsNotOf w.live i act → IsReceived w.live i links → IsReceived v.live i links × SameOwners w.live v.live
  unfolding happens
  received_stays w v Begin h others R =
      let P = begin_parts w v w.snapshot h in
      let ms = host_markers (length w.live.nodes) (length w.live.ports) in
      let t = record w.live { lines = sent (has_wire w.live.wires) w.live.lines ms } in
      subst (λ u. IsReceived u.live i links × SameOwners w.live u.live) P.1
      (received_over w.live t refl refl R (sent (has_wire w.live.wires) R.out ms, taken-sent (has_wire w.live.wires) w.live.lines (tokens w.live) ms R.out R.front), process_same w.live t refl refl)
  received_stays w v (Record j) h others R =
      let P = record_parts w v w.snapshot j h in
      let t = record w.live { lines = sent (has_wire w.live.wires) w.live.lines (node_markers j) } in
      subst (λ u. IsReceived u.live i links × SameOwners w.live u.live) P.4
      (received_over w.live t refl refl R (sent (has_wire w.live.wires) R.out (node_markers j), taken-sent (has_wire w.live.wires) w.live.lines (tokens w.live) (node_markers j) R.out R.front), process_same w.live t refl refl)
  received_stays w v (Journal f) h others R =
      let P = journal_parts w v M f h in
      let S = step_of M w.live f P.0 P.1 in
      let shape = step_shape M four w.live f P.0 S in
      let B = taken_both (taker w.live) (process w.live.wires (length w.live.nodes) f) i w.live.lines (takes w.live.wires (length w.live.nodes) f) (tokens w.live) S.out R.out others (step_takes M four w.live f P.0 S) (turn_own w.live i (by_link 0 links) R.into) S.takes_out R.front in
      subst (λ u. IsReceived u.live i links × SameOwners w.live u.live) P.2 (
        received_over w.live P.0 shape.wires shape.nodes R
            (sent (has_wire w.live.wires) B.0 S.sends, ap (λ ls. taken ls (tokens w.live)) (step_lines M four w.live f P.0 S) ∙ taken-sent (has_wire w.live.wires) S.out (tokens w.live) S.sends B.0 B.1),
        process_kept w.live P.0 shape,
      )
  received_stays w v (Close line) h others R =
      let P = close_parts w v w.snapshot line h in
      let t = record w.live { lines = set w.live.lines line (unmarked (on_line w.live.lines line)) } in
      subst (λ u. IsReceived u.live i links × SameOwners w.live u.live) P.4
      (received_over w.live t refl refl R (taken_unmarked w.live.lines line (tokens w.live) R.out (tokens_unmarked w.live) R.front), process_same w.live t refl refl)
  received_stays w v Trim h others R =
      let P = trim_parts w v (whole w) (all_some w.frozen) h in
      subst (λ u. IsReceived u.live i links × SameOwners w.live u.live) P.4 (R, λ f. refl)

  not_of_still : (s t : Network Node) → SameOwners s t → (acts : List Act) → AllByRecursion (IsNotOf s i) acts → AllByRecursion (IsNotOf t i) acts
  not_of_still s t same [] all = tt
  not_of_still s t same (act ∷ acts) all = (one act all.0, not_of_still s t same acts all.1)
    where
      one : (act : Act) → IsNotOf s i act → IsNotOf t i act
      one Begin h = tt
      one (Record j) h = tt
      one (Journal f) h = λ is. h (sym (same f) ∙ is)
      one (Close line) h = tt
      one Trim h = tt

  -- What a node has received stays at the front of its lines, whatever others do.
  pub received_after : (w v : MarkedNetwork Node) (acts : List Act) → acted M w acts ≡ Some v → AllByRecursion (IsNotOf w.live i) acts → IsReceived w.live i links → IsReceived v.live i links
  unfolding acted
  received_after w v [] h all R = let is : w ≡ v = cc in subst (λ u. IsReceived u.live i links) is R
  received_after w v (act ∷ acts) h all R =
      let F = bind_some (happens M w act) (λ u. acted M u acts) v h in
      let one = received_stays w F.0 act F.1 all.0 R in
      received_after F.0 v acts F.2 (not_of_still w.live F.0.live one.1 acts all.1) one.0
