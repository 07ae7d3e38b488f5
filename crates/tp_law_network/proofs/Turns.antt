-- A turn as one entry is its takes, links in order, and then its run.
use Rattle.std.proofs.Common.{◌≡◌, ℕ, zero, suc, ◌+◌, ◌*◌, true, List, [], ◌∷◌, ◌++◌, map, length, set, drop, refl, sym, ap, subst, ◌∙◌, arith, Some, None, slice_get, append-nil, length-set}
use Rattle.std.specs.Prelude.{◌&&◌, nat_lt, nat_le}
use Rattle.tp_law_network.proofs.Lower.{option_map, and_from, cond-true, lt-ltb, set-set, map-append, Token, Received, Link, Run, Take, Turn, MAX_STEPS, ◌>>=◌, Machine, steps, Network, Own, OfNode, OfHost, own, put, receiver, has_wire, process_at, on_line, is_first, taken, sent, by_link, by_line, incoming, comes_in, took_all, turned, process, takes, of_node, receives, does, next, after, slice_get_within}
use Rattle.tp_law_network.specs.Turns.{run_of, takes_in, entries_of_turn, IsFront}
use Rattle.tp_law_network.proofs.Lines.{cons_taken, taken_cons, taken-sent, sent-append}
use Rattle.tp_law_network.proofs.Partial.{bind_some, map_some, cond_some, slice_get-set_same}
use Rattle.tp_law_network.proofs.Local.{Step, step_of, next_from, own_node, own-node, turn_step, comes_first}
use Rattle.tp_law_network.proofs.Reorder.{after_front, after_first, after_one, first_possible, front_possible}

-- the tokens that a node sends, by line
abbrev from : ℕ → List (ℕ × Token) → List (ℕ × Token)
from i ms = map (λ m. (4 * i + m.0, m.1)) ms

-- the network after node i has changed, if its takes left `out`
abbrev changed : {Node : Type 0} → Network Node → List (List Token) → ℕ → Node × List (ℕ × Token) → Network Node
changed s out i r = record s { nodes = set s.nodes i r.0; lines = sent (has_wire s.wires) out (from i r.1) }

set_self : {A : Type 0} (xs : List A) (i : ℕ) (x : A) → slice_get xs i ≡ Some x → set xs i x ≡ xs
set_self [] i x h = refl
set_self (y ∷ ys) zero x h = let same : y ≡ x = cc in ap (λ z. z ∷ ys) (sym same)
set_self (y ∷ ys) (suc i) x h = ap (λ zs. y ∷ zs) (set_self ys i x h)

module _ {Node : Type 0} (M : Machine Node) where
  own_at : (s : Network Node) (i : ℕ) (n : Node) → slice_get s.nodes i ≡ Some n → own s i ≡ Some (OfNode n)
  own_at s i n at = own-node s i (λ h. let below = slice_get_within s.nodes i n at in omega (arith, below, h)) ∙ ap (option_map OfNode) at

  -- one take
  take_step : (s : Network Node) (i k line : ℕ) (token : Token) (n : Node) (r : Node × List (ℕ × Token)) → receiver s.wires line ≡ Some (Link i k)
      → is_first (on_line s.lines line) token ≡ true → slice_get s.nodes i ≡ Some n → M.took n k token ≡ Some r
      → next M s (Take line token) ≡ Some (changed s (set s.lines line (drop 1 (on_line s.lines line))) i r)
  unfolding taken takes process does receives put
  take_step s i k line token n r end first at took = next_from M s (Take line token) _ (record {
    out = set s.lines line (drop 1 (on_line s.lines line));
    takes_out = cons_taken s.lines (line, token) [] first;
    was = OfNode n;
    own_was = ap (λ e. own s (process_at (length s.nodes) e)) end ∙ own_at s i n at;
    now = OfNode r.0;
    sends = from i r.1;
    change = ap (λ e. receives M (length s.nodes) e token (OfNode n)) end ∙ ap (option_map (of_node i)) took;
    makes = ap (λ e. put (record s { lines = sent (has_wire s.wires) (set s.lines line (drop 1 (on_line s.lines line))) (from i r.1) }) (process_at (length s.nodes) e) (OfNode r.0)) end;
  })

  -- what is sent for two parts of a turn
  both_sent : (s : Network Node) (i : ℕ) (out : List (List Token)) (xs ys : List (ℕ × Token))
      → sent (has_wire s.wires) (sent (has_wire s.wires) out (from i xs)) (from i ys) ≡ sent (has_wire s.wires) out (from i (xs ++ ys))
  both_sent s i out xs ys =
      sym (sent-append (has_wire s.wires) out (from i xs) (from i ys)) ∙ ap (sent (has_wire s.wires) out) (sym (map-append (λ m. (4 * i + m.0, m.1)) xs ys))

  changed_twice : (s : Network Node) (out : List (List Token)) (i : ℕ) (a b : Node × List (ℕ × Token))
      → changed (changed s out i a) (sent (has_wire s.wires) out (from i a.1)) i b ≡ changed s out i (b.0, a.1 ++ b.1)
  changed_twice s out i a b =
      ap (λ nodes. record s { nodes = nodes; lines = sent (has_wire s.wires) (sent (has_wire s.wires) out (from i a.1)) (from i b.1) }) (set-set s.nodes i a.0 b.0)
      ∙ ap (λ lines. record s { nodes = set s.nodes i b.0; lines = lines }) (both_sent s i out a.1 b.1)

  -- takes, one after the other
  takes_then : (s : Network Node) (N i : ℕ) → length s.nodes ≡ N → (ms : List (ℕ × Token)) (n : Node) (r : Node × List (ℕ × Token)) (out : List (List Token))
      → comes_in s.wires N i ms ≡ true → taken s.lines (by_line s.wires N i ms) ≡ Some out → slice_get s.nodes i ≡ Some n → took_all M ms n ≡ Some r
      → after M s (takes_in (by_line s.wires N i ms)) ≡ Some (changed s out i r)
  unfolding taken took_all after sent
  takes_then s N i size [] n r out into front at e =
      let is : ◌≡◌ {A = Node × List (ℕ × Token)} (n, []) r = cc in
      let same : s.lines ≡ out = cc in
      subst (λ q. Some s ≡ Some (changed s out i q)) is
      (ap (λ nodes. Some (record s { nodes = nodes })) (sym (set_self s.nodes i n at)) ∙ ap (λ lines. Some (record s { nodes = set s.nodes i n; lines = lines })) same)
  takes_then s N i size (m ∷ ms) n r out into front at e =
      let line = incoming s.wires N i m.0 in
      let C = comes_first s.wires N i m ms into in
      let T = taken_cons s.lines (line, m.1) (by_line s.wires N i ms) out front in
      let F = bind_some (M.took n m.0 m.1) _ r e in
      let R = bind_some (took_all M ms F.0.0) _ r F.2 in
      let is : ◌≡◌ {A = Node × List (ℕ × Token)} (R.0.0, F.0.1 ++ R.0.1) r = cc in
      let popped = set s.lines line (drop 1 (on_line s.lines line)) in
      let u = changed s popped i F.0 in
      let rest = takes_then u N i (length-set s.nodes i F.0.0 ∙ size) ms F.0.0 R.0 (sent (has_wire s.wires) out (from i F.0.1)) C.1
      (taken-sent (has_wire s.wires) popped (by_line s.wires N i ms) (from i F.0.1) out T.1) (slice_get-set_same s.nodes i F.0.0 n at) R.1 in
      after_first M s u (Take line m.1) (takes_in (by_line s.wires N i ms)) (take_step s i m.0 line m.1 n F.0 C.0 T.0 at F.1)
      ∙ rest ∙ ap Some (changed_twice s out i F.0 R.0) ∙ ap (λ q. Some (changed s out i q)) is

  -- takes that are possible one after the other are those of one turn
  then_takes : (s : Network Node) (N i : ℕ) → length s.nodes ≡ N → (ms : List (ℕ × Token)) (n : Node) (u : Network Node) (out : List (List Token))
      → comes_in s.wires N i ms ≡ true → taken s.lines (by_line s.wires N i ms) ≡ Some out → slice_get s.nodes i ≡ Some n
      → after M s (takes_in (by_line s.wires N i ms)) ≡ Some u → (r : Node × List (ℕ × Token)) × (took_all M ms n ≡ Some r)
  unfolding taken took_all does receives process
  then_takes s N i size [] n u out into front at e = ((n, []), refl)
  then_takes s N i size (m ∷ ms) n u out into front at e =
      let line = incoming s.wires N i m.0 in
      let C = comes_first s.wires N i m ms into in
      let T = taken_cons s.lines (line, m.1) (by_line s.wires N i ms) out front in
      let F = first_possible M s u (Take line m.1) (takes_in (by_line s.wires N i ms)) e in
      let S = step_of M s (Take line m.1) F.0 F.1 in
      let was : Some (OfNode n) ≡ Some S.was = sym (own_at s i n at) ∙ ap (λ end. own s (process_at (length s.nodes) end)) (sym C.0) ∙ S.own_was in
      let is : OfNode n ≡ S.was = cc in
      let did : option_map (of_node i) (M.took n m.0 m.1) ≡ Some (S.now, S.sends) =
      ap (λ end. receives M (length s.nodes) end m.1 (OfNode n)) (sym C.0) ∙ ap (receives M (length s.nodes) (receiver s.wires line) m.1) is ∙ S.change in
      let Q = map_some (of_node i) (M.took n m.0 m.1) (S.now, S.sends) did in
      let popped = set s.lines line (drop 1 (on_line s.lines line)) in
      let v = changed s popped i Q.0 in
      let alike : Some v ≡ Some F.0 = sym (take_step s i m.0 line m.1 n Q.0 C.0 T.0 at Q.1) ∙ F.1 in
      let same : v ≡ F.0 = cc in
      let rest = then_takes v N i (length-set s.nodes i Q.0.0 ∙ size) ms Q.0.0 u (sent (has_wire s.wires) out (from i Q.0.1)) C.1
      (taken-sent (has_wire s.wires) popped (by_line s.wires N i ms) (from i Q.0.1) out T.1) (slice_get-set_same s.nodes i Q.0.0 n at)
      (ap (λ x. after M x (takes_in (by_line s.wires N i ms))) same ∙ F.2) in
      ((rest.0.0, Q.0.1 ++ rest.0.1), ap (λ o. o >>= λ first. took_all M ms first.0 >>= λ more. Some (more.0, first.1 ++ more.1)) Q.1 ∙ ap (λ o. o >>= λ more. Some (more.0, Q.0.1 ++ more.1)) rest.1)

  -- the run
  run_step : (s : Network Node) (i k : ℕ) (n : Node) (r : Node × List (ℕ × Token)) → slice_get s.nodes i ≡ Some n → nat_le (suc k) MAX_STEPS ≡ true → steps M (suc k) n ≡ Some r
      → next M s (Run i (suc k)) ≡ Some (changed s s.lines i r)
  unfolding taken takes process does put
  run_step s i k n r at few made = next_from M s (Run i (suc k)) _ (record {
    out = s.lines;
    takes_out = refl;
    was = OfNode n;
    own_was = own_at s i n at;
    now = OfNode r.0;
    sends = from i r.1;
    change = cond-true (nat_lt 0 (suc k) && nat_le (suc k) MAX_STEPS) (option_map (of_node i) (steps M (suc k) n)) None (and_from (nat_lt 0 (suc k)) (nat_le (suc k) MAX_STEPS) (lt-ltb 0 (suc k) (omega arith)) few)
        ∙ ap (option_map (of_node i)) made;
    makes = refl;
  })

  run_last : (s : Network Node) (i k : ℕ) (out : List (List Token)) (a b : Node × List (ℕ × Token)) (n : Node) → slice_get s.nodes i ≡ Some n → nat_le k MAX_STEPS ≡ true → steps M k a.0 ≡ Some b
      → after M (changed s out i a) (run_of i k) ≡ Some (changed s out i (b.0, a.1 ++ b.1))
  unfolding after steps
  run_last s i zero out a b n at few made =
      let is : ◌≡◌ {A = Node × List (ℕ × Token)} (a.0, []) b = cc in
      subst (λ q. Some (changed s out i a) ≡ Some (changed s out i (q.0, a.1 ++ q.1))) is (ap (λ ms. Some (changed s out i (a.0, ms))) (sym (append-nil a.1)))
  run_last s i (suc k) out a b n at few made =
      let u = changed s out i a in
      after_one M u (Run i (suc k)) ∙ run_step u i k a.0 b (slice_get-set_same s.nodes i a.0 n at) few made ∙ ap Some (changed_twice s out i a b)

  -- A turn leads where its takes and then its run lead.
  pub turn_is_entries : (s t : Network Node) (i : ℕ) (links : List Received) (k : ℕ) → next M s (Turn i links k) ≡ Some t → after M s (entries_of_turn s i links k) ≡ Some t
  unfolding process takes put does
  turn_is_entries s t i links k h = go S.was (S.now, S.sends) S.own_was S.change ∙ ap Some S.makes
    where
      S : Step M s (Turn i links k) t
      S = step_of M s (Turn i links k) t h

      go : (was : Own Node) (c : Own Node × List (ℕ × Token)) → own s i ≡ Some was → does M s.wires (length s.nodes) (Turn i links k) was ≡ Some c
          → after M s (entries_of_turn s i links k) ≡ Some (put (record s { lines = sent (has_wire s.wires) S.out c.1 }) i c.0)
      go (OfHost ports) c o d = cc
      go (OfNode n) c o d =
          let T = turn_step M s.wires (length s.nodes) i links k n c d in
          let at = (own_node s i n o).1 in
          let first = takes_then s (length s.nodes) i refl (by_link 0 links) n T.taken_all S.out T.into S.takes_out at T.takes_all in
          subst (λ q. after M s (entries_of_turn s i links k) ≡ Some (put (record s { lines = sent (has_wire s.wires) S.out q.1 }) i q.0)) T.is
          (after_front M s (changed s S.out i T.taken_all) (takes_in (takes s.wires (length s.nodes) (Turn i links k))) (run_of i k) first ∙ run_last s i k S.out T.taken_all T.run n at T.few T.runs)

  -- A turn that is possible takes fronts of its lines, as they are before it.
  pub turn_fronts : (s t : Network Node) (i : ℕ) (links : List Received) (k : ℕ) → next M s (Turn i links k) ≡ Some t → IsFront s i links k
  unfolding process takes does
  turn_fronts s t i links k h = go S.was (S.now, S.sends) S.own_was S.change
    where
      S : Step M s (Turn i links k) t
      S = step_of M s (Turn i links k) t h

      go : (was : Own Node) (c : Own Node × List (ℕ × Token)) → own s i ≡ Some was → does M s.wires (length s.nodes) (Turn i links k) was ≡ Some c → IsFront s i links k
      go (OfHost ports) c o d = absurd (let none : ⊥ = cc in none)
      go (OfNode n) c o d =
          let T = turn_step M s.wires (length s.nodes) i links k n c d in
          record { node = n; there = (own_node s i n o).1; into = T.into; some = T.some; few = T.few; out = S.out; front = S.takes_out }

  steps_of : (s : Network Node) (i k : ℕ) (n : Node) (t : Network Node) → slice_get s.nodes i ≡ Some n → after M s (run_of i k) ≡ Some t → (r : Node × List (ℕ × Token)) × (steps M k n ≡ Some r)
  unfolding does process steps
  steps_of s i zero n t at e = ((n, []), refl)
  steps_of s i (suc k) n t at e =
      let F = first_possible M s t (Run i (suc k)) [] e in
      let S = step_of M s (Run i (suc k)) F.0 F.1 in
      let was : Some (OfNode n) ≡ Some S.was = sym (own_at s i n at) ∙ S.own_was in
      let is : OfNode n ≡ S.was = cc in
      let did = ap (λ x. does M s.wires (length s.nodes) (Run i (suc k)) x) is ∙ S.change in
      let C = cond_some (nat_lt 0 (suc k) && nat_le (suc k) MAX_STEPS) (option_map (of_node i) (steps M (suc k) n)) (S.now, S.sends) did in
      let Q = map_some (of_node i) (steps M (suc k) n) (S.now, S.sends) C.1 in
      (Q.0, Q.1)

  -- A turn is possible if its takes and then its run are possible one after the other, and its tokens are already at the fronts of their
  -- lines.
  pub entries_are_turn : (s t : Network Node) (i : ℕ) (links : List Received) (k : ℕ) → IsFront s i links k → after M s (entries_of_turn s i links k) ≡ Some t → next M s (Turn i links k) ≡ Some t
  unfolding does turned process takes put
  entries_are_turn s t i links k F e =
      let ms = by_link 0 links in
      let T = front_possible M s t (takes_in (takes s.wires (length s.nodes) (Turn i links k))) (run_of i k) e in
      let R = then_takes s (length s.nodes) i refl ms F.node T.0 F.out F.into F.front F.there T.1 in
      let first = takes_then s (length s.nodes) i refl ms F.node R.0 F.out F.into F.front F.there R.1 in
      let alike : Some (changed s F.out i R.0) ≡ Some T.0 = sym first ∙ T.1 in
      let same : changed s F.out i R.0 ≡ T.0 = cc in
      let Q = steps_of (changed s F.out i R.0) i k R.0.0 t (slice_get-set_same s.nodes i R.0.0 F.node F.there) (ap (λ u. after M u (run_of i k)) same ∙ T.2) in
      let last = run_last s i k F.out R.0 Q.0 F.node F.there F.few Q.1 in
      let ends : Some (changed s F.out i (Q.0.0, R.0.1 ++ Q.0.1)) ≡ Some t = sym last ∙ ap (λ u. after M u (run_of i k)) same ∙ T.2 in
      next_from M s (Turn i links k) (changed s F.out i (Q.0.0, R.0.1 ++ Q.0.1)) (record {
        out = F.out;
        takes_out = F.front;
        was = OfNode F.node;
        own_was = own_at s i F.node F.there;
        now = OfNode Q.0.0;
        sends = from i (R.0.1 ++ Q.0.1);
        change = cond-true (comes_in s.wires (length s.nodes) i ms && (nat_lt 0 (length ms) && nat_le k MAX_STEPS)) (option_map (of_node i) (turned M ms k F.node)) None
            (and_from (comes_in s.wires (length s.nodes) i ms) (nat_lt 0 (length ms) && nat_le k MAX_STEPS) F.into (and_from (nat_lt 0 (length ms)) (nat_le k MAX_STEPS) F.some F.few))
            ∙ ap (λ o. option_map (of_node i) (o >>= λ first. steps M k first.0 >>= λ rest. Some (rest.0, first.1 ++ rest.1))) R.1
            ∙ ap (λ o. option_map (of_node i) (o >>= λ rest. Some (rest.0, R.0.1 ++ rest.1))) Q.1;
        makes = refl;
      }) ∙ ends
