-- What the ends of links and ports do in one entry, counted in Data and Acks.
use Rattle.std.proofs.Common.{◌≡◌, ◌≢◌, ℕ, zero, suc, ◌+◌, ◌-◌, ◌*◌, ◌/◌, ◌%◌, ◌<◌, ◌≤◌, ◌∙◌, true, append-nil, inl, inr, List, [], ◌∷◌, ◌++◌, map, length, set, refl, sym, ap, subst, arith, Option, Some, None, eq-eqb, ne_eqb, slice_get}
use Rattle.std.specs.Prelude.{nat_lt, nat_le, ◌&&◌}
use Rattle.tp_law_network.proofs.Lower.{cases_Bool, cases_eq, ltb-true, ltb-false, cond_some, option_map, AllByRecursion, Token, Data, Ack, Marker, WireEnd, Link, AtPort, Entry, Run, Take, HostIn, Confirm, Turn, MAX_STEPS, bit, ◌>>=◌, Machine, steps, Network, Port, Own, OfNode, OfHost, own, receiver, process_at, line_of, back, for_line, by_link, by_line, comes_in, took_all, process, takes, of_node, of_port, acked, port_took, first_only, handed_in, confirmed, receives, does, EndsSeen, datas, acks, owner, is_some_byte, is_pending, own_waits, own_holds, Wired, KeepsFlight, taker}
use Rattle.tp_law_network.proofs.Lines.{for_line-append}
use Rattle.tp_law_network.proofs.Local.{turn_step, comes_first, own_node, owner_of_link, owner_of_port}
use Rattle.tp_law_network.proofs.Partial.{bind_some, map_some, cond_some as tested, slice_get-set_same, slice_get-set_other}

-- ## Counts

pub datas-append : (ts us : List Token) → datas (ts ++ us) ≡ datas ts + datas us
datas-append [] us = omega arith
datas-append (t ∷ ts) us = omega (arith, datas-append ts us)

pub acks-append : (ts us : List Token) → acks (ts ++ us) ≡ acks ts + acks us
acks-append [] us = omega arith
acks-append (t ∷ ts) us = omega (arith, acks-append ts us)

-- ## A node

-- What a node's links do when it goes from one state to another: `ms` are the tokens that it takes, each with its link.
pub record NodeMoves {Node : Type 0} (E : EndsSeen Node) (node : Node) (ms : List (ℕ × Token)) (after : Node × List (ℕ × Token)) : Type 0 where
  pub out : (k : ℕ) → k < 4 → bit (E.waits after.0 k) + acks (for_line k ms) ≡ bit (E.waits node k) + datas (for_line k after.1)
  pub inn : (k : ℕ) → k < 4 → bit (E.holds after.0 k) + acks (for_line k after.1) ≡ bit (E.holds node k) + datas (for_line k ms)

-- one after another
pub joined_moves : {Node : Type 0} {E : EndsSeen Node} {node : Node} (ms ns : List (ℕ × Token)) (mid last : Node × List (ℕ × Token))
    → NodeMoves E node ms mid → NodeMoves E mid.0 ns last → NodeMoves E node (ms ++ ns) (last.0, mid.1 ++ last.1)
joined_moves {E = E} {node = node} ms ns mid last a b = record {
  out = λ k h. rw (for_line-append k ms ns, for_line-append k mid.1 last.1, acks-append (for_line k ms) (for_line k ns), datas-append (for_line k mid.1) (for_line k last.1)) (omega (arith, a.out k h, b.out k h));
  inn = λ k h. rw (for_line-append k ms ns, for_line-append k mid.1 last.1, acks-append (for_line k mid.1) (for_line k last.1), datas-append (for_line k ms) (for_line k ns)) (omega (arith, a.inn k h, b.inn k h));
}

-- as it stays
pub no_moves : {Node : Type 0} (E : EndsSeen Node) (node : Node) → NodeMoves E node [] (node, [])
no_moves E node = record { out = λ k h. refl; inn = λ k h. refl }

module _ {Node : Type 0} {M : Machine Node} {E : EndsSeen Node} (keeps : KeepsFlight M E) where
  pub took_moves : (node : Node) (j : ℕ) (token : Token) (after : Node × List (ℕ × Token)) → M.took node j token ≡ Some after → NodeMoves E node ((j, token) ∷ []) after
  took_moves node j token after e = record {
    out = λ k h. keeps.took_out node j token after k h e;
    inn = λ k h. keeps.took_in node j token after k h e;
  }

  pub step_moves : (node : Node) (after : Node × List (ℕ × Token)) → M.step node ≡ Some after → NodeMoves E node [] after
  step_moves node after e = record {
    out = λ k h. omega (arith, keeps.step_out node after k h e);
    inn = λ k h. omega (arith, keeps.step_in node after k h e);
  }

  pub steps_moves : (count : ℕ) (node : Node) (after : Node × List (ℕ × Token)) → steps M count node ≡ Some after → NodeMoves E node [] after
  unfolding steps
  steps_moves zero node after e = let same : (node, []) ≡ after = cc in subst (λ r. NodeMoves E node [] r) same (no_moves E node)
  steps_moves (suc count) node after e =
      let a = bind_some (M.step node) (λ first. steps M count first.0 >>= λ rest. Some (rest.0, first.1 ++ rest.1)) after e in
      let b = bind_some (steps M count a.0.0) (λ rest. Some (rest.0, a.0.1 ++ rest.1)) after a.2 in
      let same : (b.0.0, a.0.1 ++ b.0.1) ≡ after = cc in
      subst (λ r. NodeMoves E node [] r) same (joined_moves [] [] a.0 b.0 (step_moves node a.0 a.1) (steps_moves count a.0.0 b.0 b.1))

  pub took_all_moves : (ms : List (ℕ × Token)) (node : Node) (after : Node × List (ℕ × Token)) → took_all M ms node ≡ Some after → NodeMoves E node ms after
  unfolding took_all
  took_all_moves [] node after e = let same : (node, []) ≡ after = cc in subst (λ r. NodeMoves E node [] r) same (no_moves E node)
  took_all_moves (m ∷ ms) node after e =
      let a = bind_some (M.took node m.0 m.1) (λ first. took_all M ms first.0 >>= λ rest. Some (rest.0, first.1 ++ rest.1)) after e in
      let b = bind_some (took_all M ms a.0.0) (λ rest. Some (rest.0, a.0.1 ++ rest.1)) after a.2 in
      let same : (b.0.0, a.0.1 ++ b.0.1) ≡ after = cc in
      subst (λ r. NodeMoves E node (m ∷ ms) r) same (joined_moves (m ∷ []) ms a.0 b.0 (took_moves node m.0 m.1 a.0 a.1) (took_all_moves ms a.0.0 b.0 b.1))

-- ## Whose line it is

pub owner_node : (N i z : ℕ) → i < N → owner N z ≡ i → z ≡ 4 * i + z % 4
owner_node N i z h e = elim (cases_Bool (nat_lt z (4 * N))) [
  | inl y ↦ let q : z / 4 ≡ i = rw y at e in omega arith
  | inr n ↦ let q : N ≡ i = rw n at e in omega arith
]

pub owner_host : (N z : ℕ) → owner N z ≡ N → 4 * N ≤ z
owner_host N z e = elim (cases_Bool (nat_lt z (4 * N))) [
  | inl y ↦ let q : z / 4 ≡ N = rw y at e in let h : z < 4 * N = ltb-true z (4 * N) y in omega arith
  | inr n ↦ ltb-false z (4 * N) n
]

-- the tokens of one link, by link and by line
pub for_line-shift : (a k : ℕ) (ms : List (ℕ × Token)) → for_line (a + k) (map (λ m. (a + m.0, m.1)) ms) ≡ for_line k ms
for_line-shift a k [] = refl
for_line-shift a k (m ∷ ms) = elim (cases_eq m.0 k) [
  | inl y ↦ rw (eq-eqb (a + m.0) (a + k) (omega arith), eq-eqb m.0 k y) (ap (λ ts. m.1 ∷ ts) (for_line-shift a k ms))
  | inr n ↦ rw (ne_eqb (a + m.0) (a + k) (λ e. n (omega arith)), ne_eqb m.0 k n) (for_line-shift a k ms)
]

-- ## A process

-- What the ends of process p do when its state changes, and tokens are sent: `ms` are those that come in. Each has the line that its
-- receiving end sends.
pub record Moves {Node : Type 0} (E : EndsSeen Node) (N p : ℕ) (state : Own Node) (ms : List (ℕ × Token)) (change : Own Node × List (ℕ × Token)) : Type 0 where
  pub out : (z : ℕ) → owner N z ≡ p → bit (own_waits E N change.0 z) + acks (for_line z ms) ≡ bit (own_waits E N state z) + datas (for_line z change.1)
  pub inn : (z : ℕ) → owner N z ≡ p → bit (own_holds E change.0 z) + acks (for_line z change.1) ≡ bit (own_holds E state z) + datas (for_line z ms)

pub node_moves : {Node : Type 0} {E : EndsSeen Node} (N i : ℕ) (node : Node) (ms : List (ℕ × Token)) (after : Node × List (ℕ × Token))
    → i < N → NodeMoves E node ms after
    → Moves E N i (OfNode node) (map (λ m. (4 * i + m.0, m.1)) ms) (of_node i after)
node_moves {E = E} N i node ms after h moves = record {
  out = λ z e. rw (by_link z e ms, by_link z e after.1) (moves.out (z % 4) (omega arith));
  inn = λ z e. rw (by_link z e ms, by_link z e after.1) (moves.inn (z % 4) (omega arith));
}
  where
    by_link : (z : ℕ) → owner N z ≡ i → (ns : List (ℕ × Token)) → for_line z (map (λ m. (4 * i + m.0, m.1)) ns) ≡ for_line (z % 4) ns
    by_link z e ns = subst (λ l. for_line l (map (λ m. (4 * i + m.0, m.1)) ns) ≡ for_line (z % 4) ns) (sym (owner_node N i z h e)) (for_line-shift (4 * i) (z % 4) ns)

-- ## A port

-- What a port does when it goes from one state to another: `ms` are the tokens that it takes.
pub record PortMoves (port : Port) (ms : List Token) (after : Port × List Token) : Type 0 where
  pub out : bit (is_some_byte after.0.pending) + acks ms ≡ bit (is_some_byte port.pending) + datas after.1
  pub inn : acks after.1 ≡ datas ms

pub port_took_moves : (token : Token) (port : Port) (after : Port × List Token) → port_took token port ≡ Some after → PortMoves port (token ∷ []) after
port_took_moves (Data b) port after e =
    subst (λ r. PortMoves port (Data b ∷ []) r) (cond_some _ _ after e).1 (record { out = refl; inn = refl })
port_took_moves Ack port after e = go port.pending refl e
  where
    go : (xs : List ℕ) → port.pending ≡ xs → acked xs port ≡ Some after → PortMoves port (Ack ∷ []) after
    go [] p e = cc
    go (x ∷ []) p e = let same : (record port { pending = []; in_base = port.in_base + 1 }, []) ≡ after = cc in
        subst (λ r. PortMoves port (Ack ∷ []) r) same (record { out = rw p refl; inn = refl })
    go (x ∷ y ∷ ys) p e = let same : (record port { pending = y ∷ ys; in_base = port.in_base + 1 }, Data y ∷ []) ≡ after = cc in
        subst (λ r. PortMoves port (Ack ∷ []) r) same (record { out = rw p refl; inn = refl })
port_took_moves Marker port after e = cc

pub handed_in_moves : (x : ℕ) (port : Port) (after : Port × List Token) → handed_in x port ≡ Some after → PortMoves port [] after
handed_in_moves x port after e =
    subst (λ r. PortMoves port [] r) (cond_some _ _ after e).1 (record { out = out port.pending; inn = inn port.pending })
  where
    out : (xs : List ℕ) → bit (is_some_byte (xs ++ x ∷ [])) + 0 ≡ bit (is_some_byte xs) + datas (first_only xs x)
    out [] = refl
    out (y ∷ ys) = refl

    inn : (xs : List ℕ) → acks (first_only xs x) ≡ 0
    inn [] = refl
    inn (y ∷ ys) = refl

pub confirmed_moves : (upto : ℕ) (port : Port) (after : Port × List Token) → confirmed upto port ≡ Some after → PortMoves port [] after
confirmed_moves upto port after e = subst (λ r. PortMoves port [] r) (cond_some _ _ after e).1 (record { out = refl; inn = refl })

-- ## The host

pub for_line-all : (l : ℕ) (ts : List Token) → for_line l (map (λ t. (l, t)) ts) ≡ ts
for_line-all l [] = refl
for_line-all l (t ∷ ts) = rw (eq-eqb l l refl) (ap (λ us. t ∷ us) (for_line-all l ts))

pub for_line-none : (k l : ℕ) (ts : List Token) → k ≢ l → for_line l (map (λ t. (k, t)) ts) ≡ []
for_line-none k l [] n = refl
for_line-none k l (t ∷ ts) n = rw (ne_eqb k l n) (for_line-none k l ts n)

pub port_moves : {Node : Type 0} {E : EndsSeen Node} (N p : ℕ) (ports : List Port) (port : Port) (ms : List Token) (after : Port × List Token)
    → slice_get ports p ≡ Some port → PortMoves port ms after
    → Moves E N N (OfHost ports) (map (λ t. (4 * N + p, t)) ms) (OfHost (set ports p after.0), map (λ t. (4 * N + p, t)) after.1)
port_moves {E = E} N p ports port ms after is moves = record {
  out = λ z e. elim (cases_eq (4 * N + p) z) [
    | inl same ↦ subst (λ l. bit (is_pending (slice_get (set ports p after.0) (l - 4 * N))) + acks (for_line l (map (λ t. (4 * N + p, t)) ms)) ≡ bit (is_pending (slice_get ports (l - 4 * N))) + datas (for_line l (map (λ t. (4 * N + p, t)) after.1))) same here
    | inr n ↦ other z (owner_host N z e) n
  ];
  inn = λ z e. elim (cases_eq (4 * N + p) z) [
    | inl same ↦ ap (λ n. 0 + n) (subst (λ l. acks (for_line l (map (λ t. (4 * N + p, t)) after.1)) ≡ datas (for_line l (map (λ t. (4 * N + p, t)) ms))) same (rw (for_line-all (4 * N + p) ms, for_line-all (4 * N + p) after.1) moves.inn))
    | inr n ↦ rw (for_line-none (4 * N + p) z ms n, for_line-none (4 * N + p) z after.1 n) refl
  ];
}
  where
    at_port : 4 * N + p - 4 * N ≡ p
    at_port = omega arith

    here : bit (is_pending (slice_get (set ports p after.0) (4 * N + p - 4 * N))) + acks (for_line (4 * N + p) (map (λ t. (4 * N + p, t)) ms))
        ≡ bit (is_pending (slice_get ports (4 * N + p - 4 * N))) + datas (for_line (4 * N + p) (map (λ t. (4 * N + p, t)) after.1))
    here = rw (for_line-all (4 * N + p) ms, for_line-all (4 * N + p) after.1, at_port, slice_get-set_same ports p after.0 port is, is) moves.out

    other : (z : ℕ) → 4 * N ≤ z → 4 * N + p ≢ z
        → bit (is_pending (slice_get (set ports p after.0) (z - 4 * N))) + acks (for_line z (map (λ t. (4 * N + p, t)) ms))
        ≡ bit (is_pending (slice_get ports (z - 4 * N))) + datas (for_line z (map (λ t. (4 * N + p, t)) after.1))
    other z h n = rw (for_line-none (4 * N + p) z ms n, for_line-none (4 * N + p) z after.1 n, slice_get-set_other ports p (z - 4 * N) after.0 (λ e. n (omega arith))) refl

-- ## An entry

-- The tokens that are taken from lines, each with the line that the end sends at which it comes in.
abbrev pub came : Option ℕ → Token → List (ℕ × Token) → List (ℕ × Token)
came None token rest = rest
came (Some line) token rest = (line, token) ∷ rest

abbrev pub came_in : {Node : Type 0} → Network Node → List (ℕ × Token) → List (ℕ × Token)
came_in s [] = []
came_in s (m ∷ ms) = came (back s m.0) m.1 (came_in s ms)

abbrev pub arrivals : {Node : Type 0} → Network Node → Entry → List (ℕ × Token)
arrivals s e = came_in s (takes s.wires (length s.nodes) e)

-- what comes in comes in to the process that takes it
pub arrivals_own : {Node : Type 0} (s : Network Node) (p : ℕ) (ms : List (ℕ × Token)) → Wired s → AllByRecursion (λ m. taker s m.0 ≡ p) ms → AllByRecursion (λ m. owner (length s.nodes) m.0 ≡ p) (came_in s ms)
arrivals_own s p [] wired all = tt
arrivals_own {Node} s p (m ∷ ms) wired all = go (receiver s.wires m.0) (wired.links m.0) all.0 (arrivals_own s p ms wired all.1)
  where
    go : (end : Option WireEnd) → ((i k : ℕ) → end ≡ Some (Link i k) → (i < length s.nodes) × (k < 4)) → process_at (length s.nodes) end ≡ p
        → AllByRecursion (λ m. owner (length s.nodes) m.0 ≡ p) (came_in s ms)
        → AllByRecursion (λ m. owner (length s.nodes) m.0 ≡ p) (came (option_map (line_of (length s.nodes)) end) m.1 (came_in s ms))
    go None links is rest = rest
    go (Some (Link i k)) links is rest = (owner_of_link (length s.nodes) i k (links i k refl).0 (links i k refl).1 ∙ is, rest)
    go (Some (AtPort q)) links is rest = (owner_of_port (length s.nodes) q ∙ is, rest)

-- the tokens of a turn come in on its links
turn_arrivals : {Node : Type 0} (s : Network Node) (i : ℕ) (ms : List (ℕ × Token)) → comes_in s.wires (length s.nodes) i ms ≡ true
    → came_in s (by_line s.wires (length s.nodes) i ms) ≡ map (λ m. (4 * i + m.0, m.1)) ms
turn_arrivals s i [] e = refl
turn_arrivals s i (m ∷ ms) e =
    let C = comes_first s.wires (length s.nodes) i m ms e in
    rw C.0 (ap (λ rest. (4 * i + m.0, m.1) ∷ rest) (turn_arrivals s i ms C.1))

-- the tokens that port p takes
pub of_port_moves : {Node : Type 0} {E : EndsSeen Node} (N p : ℕ) (ports : List Port) (ms : List Token) (f : Port → Option (Port × List Token)) (change : Own Node × List (ℕ × Token))
    → ((port : Port) (after : Port × List Token) → f port ≡ Some after → PortMoves port ms after)
    → of_port N p ports f ≡ Some change → Moves E N N (OfHost ports) (map (λ t. (4 * N + p, t)) ms) change
unfolding of_port
of_port_moves {Node = Node} {E = E} N p ports ms f change moves e =
    let last : Port × List Token → Option (Own Node × List (ℕ × Token)) = λ r. Some (OfHost (set ports p r.0), map (λ t. (4 * N + p, t)) r.1) in
    let a = bind_some (slice_get ports p) (λ port. f port >>= last) change e in
    let b = bind_some (f a.0) last change a.2 in
    let same : (OfHost (set ports p b.0.0), map (λ t. (4 * N + p, t)) b.0.1) ≡ change = cc in
    subst (λ c. Moves E N N (OfHost ports) (map (λ t. (4 * N + p, t)) ms) c) same (port_moves N p ports a.0 ms b.0 a.1 (moves a.0 b.0 b.1))

module _ {Node : Type 0} {M : Machine Node} {E : EndsSeen Node} (keeps : KeepsFlight M E) where
  -- an end receives a token
  pub receives_moves : (N : ℕ) (end : Option WireEnd) (token : Token) (state : Own Node) (change : Own Node × List (ℕ × Token))
      → ((i k : ℕ) → end ≡ Some (Link i k) → (i < N) × (k < 4))
      → receives M N end token state ≡ Some change → Moves E N (process_at N end) state (came (option_map (line_of N) end) token []) change
  unfolding receives
  receives_moves N None token (OfNode node) change links e = cc
  receives_moves N None token (OfHost ports) change links e = cc
  receives_moves N (Some (Link i k)) token (OfHost ports) change links e = cc
  receives_moves N (Some (AtPort p)) token (OfNode node) change links e = cc
  receives_moves N (Some (Link i k)) token (OfNode node) change links e =
      let found = map_some (of_node i) (M.took node k token) change e in
      subst (λ c. Moves E N i (OfNode node) ((4 * i + k, token) ∷ []) c) found.2
      (node_moves N i node ((k, token) ∷ []) found.0 (links i k refl).0 (took_moves keeps node k token found.0 found.1))
  receives_moves N (Some (AtPort p)) token (OfHost ports) change links e =
      of_port_moves N p ports (token ∷ []) (port_took token) change (port_took_moves token) e

  -- what an entry does
  pub does_moves : (s : Network Node) (e : Entry) (state : Own Node) (change : Own Node × List (ℕ × Token)) → Wired s
      → own s (process s.wires (length s.nodes) e) ≡ Some state → does M s.wires (length s.nodes) e state ≡ Some change
      → Moves E (length s.nodes) (process s.wires (length s.nodes) e) state (arrivals s e) change
  unfolding process takes does
  does_moves s (Run i k) (OfHost ports) change wired o d = cc
  does_moves s (HostIn p x) (OfNode node) change wired o d = cc
  does_moves s (Confirm p upto) (OfNode node) change wired o d = cc
  does_moves s (Run i k) (OfNode node) change wired o d =
      let found = map_some (of_node i) (steps M k node) change (tested (nat_lt 0 k && nat_le k MAX_STEPS) (option_map (of_node i) (steps M k node)) change d).1 in
      subst (λ c. Moves E (length s.nodes) i (OfNode node) [] c) found.2
      (node_moves (length s.nodes) i node [] found.0 (own_node s i node o).0 (steps_moves keeps k node found.0 found.1))
  does_moves s (Take line token) state change wired o d =
      receives_moves (length s.nodes) (receiver s.wires line) token state change (wired.links line) d
  does_moves s (HostIn p x) (OfHost ports) change wired o d =
      of_port_moves (length s.nodes) p ports [] (handed_in x) change (handed_in_moves x) d
  does_moves s (Confirm p upto) (OfHost ports) change wired o d =
      of_port_moves (length s.nodes) p ports [] (confirmed upto) change (confirmed_moves upto) d
  does_moves s (Turn i links k) (OfHost ports) change wired o d = cc
  does_moves s (Turn i links k) (OfNode node) change wired o d =
      let T = turn_step M s.wires (length s.nodes) i links k node change d in
      let moved = joined_moves (by_link 0 links) [] T.taken_all T.run (took_all_moves keeps (by_link 0 links) node T.taken_all T.takes_all) (steps_moves keeps k T.taken_all.0 T.run T.runs) in
      let same : came_in s (by_line s.wires (length s.nodes) i (by_link 0 links)) ≡ map (λ m. (4 * i + m.0, m.1)) (by_link 0 links ++ []) =
      turn_arrivals s i (by_link 0 links) T.into ∙ ap (map (λ m. (4 * i + m.0, m.1))) (sym (append-nil (by_link 0 links))) in
      subst (λ c. Moves E (length s.nodes) i (OfNode node) (came_in s (by_line s.wires (length s.nodes) i (by_link 0 links))) c) T.is
      (subst (λ ms. Moves E (length s.nodes) i (OfNode node) ms (of_node i (T.run.0, T.taken_all.1 ++ T.run.1))) (sym same)
      (node_moves (length s.nodes) i node (by_link 0 links ++ []) (T.run.0, T.taken_all.1 ++ T.run.1) (own_node s i node o).0 moved))
