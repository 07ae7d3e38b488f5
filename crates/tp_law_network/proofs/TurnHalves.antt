-- A turn that a node made and the book is given is its act: one entry, or none.
use Rattle.std.proofs.Common.{◌≡◌, ℕ, zero, suc, ◌+◌, ◌*◌, inl, inr, true, false, cond, List, [], ◌∷◌, length, map, set, refl, sym, ap, subst, ◌∙◌, arith, Option, Some, None, slice_get}
use Rattle.std.specs.Prelude.{◌&&◌, nat_lt, nat_le}
use Rattle.tp_law_network.proofs.Lower.{option_map, and_from, cond-true, lt-ltb, ltb-false, cases_Bool, Token, Received, Entry, Run, Turn, MAX_STEPS, ◌>>=◌, Machine, steps, OfNode, taken, by_link, comes_in, took_all, turned, process, takes, does, of_node, Journal, happens, acted, BookState, marked}
use Rattle.tp_law_network.specs.Turns.{run_of}
use Rattle.tp_law_network.specs.Reserved.{turn_acts, with_made, with_turn, HasTurned}
use Rattle.tp_law_network.proofs.Halves.{node_joins}

set_same : {A : Type 0} (xs : List A) (i : ℕ) (x : A) → slice_get xs i ≡ Some x → set xs i x ≡ xs
set_same [] i x h = refl
set_same (y ∷ ys) zero x h = let same : y ≡ x = cc in ap (λ z. z ∷ ys) (sym same)
set_same (y ∷ ys) (suc i) x h = ap (λ zs. y ∷ zs) (set_same ys i x h)

module _ {Node : Type 0} (M : Machine Node) (b : BookState Node) (nodes : List Node) (frozen : List (Option Node)) (as_many : length nodes ≡ length b.start.nodes) where
  one_act : (e : Entry) (t : BookState Node) (ns : List Node) → happens M (marked b nodes frozen) (Journal e) ≡ Some (marked t ns frozen) → acted M (marked b nodes frozen) (Journal e ∷ []) ≡ Some (marked t ns frozen)
  unfolding acted
  one_act e t ns h = ap (λ o. o >>= λ v. Some v) h

  -- a run, or nothing
  run_joins : (i count : ℕ) (n after : Node) (tokens : List (ℕ × Token)) → slice_get nodes i ≡ Some n → nat_le count MAX_STEPS ≡ true → steps M count n ≡ Some (after, tokens)
      → acted M (marked b nodes frozen) (map Journal (run_of i count)) ≡ Some (marked (with_made b (run_of i count) (map (λ m. (4 * i + m.0, m.1)) tokens)) (set nodes i after) frozen)
  unfolding acted steps process takes taken does
  run_joins i zero n after tokens at few made =
      let pair : ◌≡◌ {A = Node × List (ℕ × Token)} (n, []) (after, tokens) = cc in
      let same : n ≡ after = ap (λ (p : Node × List (ℕ × Token)). p.0) pair in
      ap (λ ns. Some (marked b ns frozen)) (sym (set_same nodes i n at) ∙ ap (set nodes i) same)
  run_joins i (suc k) n after tokens at few made =
      one_act (Run i (suc k)) _ _
      (node_joins M b nodes frozen as_many (Run i (suc k)) n after (map (λ m. (4 * i + m.0, m.1)) tokens) b.lines at refl
      (cond-true (nat_lt 0 (suc k) && nat_le (suc k) MAX_STEPS) (option_map (of_node i) (steps M (suc k) n)) None (and_from (nat_lt 0 (suc k)) (nat_le (suc k) MAX_STEPS) (lt-ltb 0 (suc k) (omega arith)) few)
      ∙ ap (option_map (of_node i)) made))

  no_tokens : (ms : List (ℕ × Token)) → nat_lt 0 (length ms) ≡ false → ms ≡ []
  no_tokens [] h = refl
  no_tokens (m ∷ ms) h = let none = ltb-false 0 (length (m ∷ ms)) h in absurd (omega (arith, none))

  just_steps : (count : ℕ) (n : Node) (r : Node × List (ℕ × Token)) → turned M [] count n ≡ Some r → steps M count n ≡ Some r
  unfolding turned took_all
  just_steps count n r e = go (steps M count n) e
    where
      go : (o : Option (Node × List (ℕ × Token))) → (o >>= λ rest. Some (rest.0, rest.1)) ≡ Some r → o ≡ Some r
      go None h = cc
      go (Some x) h = let is : (x.0, x.1) ≡ r = cc in ap Some is

  -- What the node did under its lock and what the book does at the commit are together the turn's act.
  pub turn_joins : (i : ℕ) (links : List Received) (count : ℕ) (n after : Node) (tokens : List (ℕ × Token)) → slice_get nodes i ≡ Some n → HasTurned M b i links count tokens n after
      → acted M (marked b nodes frozen) (turn_acts i links count) ≡ Some (marked (with_turn b i links count tokens) (set nodes i after) frozen)
  unfolding process takes does
  turn_joins i links count n after tokens at T = elim (cases_Bool (nat_lt 0 (length (by_link 0 links)))) [
    | inl some ↦ subst (λ es. acted M (marked b nodes frozen) (map Journal es) ≡ Some (marked (with_made b es sends) (set nodes i after) frozen)) (sym (ap (λ c. cond c (Turn i links count ∷ []) (run_of i count)) some))
        (one_act (Turn i links count) _ _
        (node_joins M b nodes frozen as_many (Turn i links count) n after sends T.out at T.front
        (ap (λ N. does M b.start.wires N (Turn i links count) (OfNode n)) as_many
        ∙ cond-true (comes_in b.start.wires (length b.start.nodes) i (by_link 0 links) && (nat_lt 0 (length (by_link 0 links)) && nat_le count MAX_STEPS)) (option_map (of_node i) (turned M (by_link 0 links) count n)) None
        (and_from (comes_in b.start.wires (length b.start.nodes) i (by_link 0 links)) (nat_lt 0 (length (by_link 0 links)) && nat_le count MAX_STEPS) T.into (and_from (nat_lt 0 (length (by_link 0 links))) (nat_le count MAX_STEPS) some T.few))
        ∙ ap (option_map (of_node i)) T.made)))
    | inr none ↦ subst (λ es. acted M (marked b nodes frozen) (map Journal es) ≡ Some (marked (with_made b es sends) (set nodes i after) frozen)) (sym (ap (λ c. cond c (Turn i links count ∷ []) (run_of i count)) none))
        (run_joins i count n after tokens at T.few (just_steps count n (after, tokens) (ap (λ ms. turned M ms count n) (sym (no_tokens (by_link 0 links) none)) ∙ T.made)))
  ]
    where
      sends : List (ℕ × Token)
      sends = map (λ m. (4 * i + m.0, m.1)) tokens
