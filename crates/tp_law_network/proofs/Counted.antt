-- What a port has counted is how many entries there were.
use Rattle.std.proofs.Common.{◌≡◌, ℕ, ◌+◌, ◌-◌, Bool, true, false, cond, inl, inr, List, [], ◌∷◌, length, set, refl, sym, ap, subst, ◌∙◌, arith, length-append, length-drop, Option, Some, None, slice_get, ne_eqb, eq-eqb}
use Rattle.std.specs.Prelude.{◌==◌, ◌&&◌, nat_lt, nat_le}
use Rattle.tp_law_network.proofs.Lower.{option_map, count_by, and_parts, cases_eq, ltb-true, leb-true, sum_by-cons, cond_some, Token, Data, Ack, Marker, WireEnd, Link, AtPort, Entry, Run, Take, HostIn, Confirm, Turn, MAX_STEPS, Machine, steps, Network, Port, Own, OfNode, OfHost, put, receiver, has_wire, sent, HasFourLinks, process, port_took, acked, handed_in, confirmed, of_node, of_port, receives, does, next, after, accepted, came_out, is_input, is_at, is_output}
use Rattle.tp_law_network.proofs.Partial.{cond_some as tested, slice_get-set_same, slice_get-set_other}
use Rattle.tp_law_network.proofs.Local.{step_of, step_shape, own_host, port_step, turn_step}
use Rattle.tp_law_network.proofs.Reorder.{first_possible}

-- ## One port

-- it has counted `ins` bytes more in, and `outs` more out
record Counts (ins outs : ℕ) (before later : Port) : Type 0 where
  in_more : accepted later ≡ accepted before + ins
  out_more : came_out later ≡ came_out before + outs

-- whether a token is a byte
abbrev byte_of : Token → ℕ
byte_of (Data b) = 1
byte_of Ack = 0
byte_of Marker = 0

took_counts : (token : Token) (port : Port) (changed : Port × List Token) → port_took token port ≡ Some changed → Counts 0 (byte_of token) port changed.0
took_counts (Data b) port changed e =
    subst (λ r. Counts 0 1 port r.0) (cond_some _ _ changed e).1 (record { in_more = omega arith; out_more = omega (arith, length-append port.outputs (b ∷ [])) })
took_counts Ack port changed e = go port.pending refl e
  where
    go : (xs : List ℕ) → port.pending ≡ xs → acked xs port ≡ Some changed → Counts 0 0 port changed.0
    go [] is e = cc
    go (x ∷ xs) is e =
        let later : Port = record port { pending = xs; in_base = port.in_base + 1 } in
        let same : later ≡ changed.0 = cc in
        subst (λ r. Counts 0 0 port r) same (record { in_more = omega (arith, ap length is); out_more = omega arith })
took_counts Marker port changed e = cc

handed_counts : (x : ℕ) (port : Port) (changed : Port × List Token) → handed_in x port ≡ Some changed → Counts 1 0 port changed.0
handed_counts x port changed e =
    subst (λ r. Counts 1 0 port r.0) (cond_some _ _ changed e).1 (record { in_more = omega (arith, length-append port.pending (x ∷ [])); out_more = omega arith })

confirmed_counts : (upto : ℕ) (port : Port) (changed : Port × List Token) → confirmed upto port ≡ Some changed → Counts 0 0 port changed.0
confirmed_counts upto port changed e =
    let found = cond_some (nat_lt port.out_base upto && nat_le upto (port.out_base + length port.outputs)) _ changed e in
    let tests = and_parts (nat_lt port.out_base upto) (nat_le upto (port.out_base + length port.outputs)) found.0 in
    let low = ltb-true port.out_base upto tests.0 in
    let high = leb-true upto (port.out_base + length port.outputs) tests.1 in
    subst (λ r. Counts 0 0 port r.0) found.1 (record { in_more = omega arith; out_more = omega (arith, length-drop (upto - port.out_base) port.outputs) })

-- ## An entry

abbrev ports_after : {Node : Type 0} → Network Node → Own Node → List Port
ports_after s (OfNode n) = s.ports
ports_after s (OfHost ports) = ports

put_ports : {Node : Type 0} (s : Network Node) (q : ℕ) (now : Own Node) → (put s q now).ports ≡ ports_after s now
unfolding put
put_ports s q (OfNode n) = refl
put_ports s q (OfHost ports) = refl

module _ {Node : Type 0} (s : Network Node) (p : ℕ) (port : Port) (at : slice_get s.ports p ≡ Some port) where
  -- what has become of the port
  record Counted (ins outs : ℕ) (ports : List Port) : Type 0 where
    later : Port
    there : slice_get ports p ≡ Some later
    more : Counts ins outs port later

  stays_counted : Counted 0 0 s.ports
  stays_counted = record { later = port; there = at; more = record { in_more = omega arith; out_more = omega arith } }

  -- a change of port q
  port_counted : (N q : ℕ) (change : Port → Option (Port × List Token)) (r : Own Node × List (ℕ × Token)) → of_port N q s.ports change ≡ Some r → (ins outs : ℕ)
      → ((before : Port) (changed : Port × List Token) → change before ≡ Some changed → Counts ins outs before changed.0)
      → Counted (cond (q == p) ins 0) (cond (q == p) outs 0) (ports_after s r.0)
  port_counted N q change r e ins outs each =
      let P = port_step N q s.ports change r e in
      subst (λ x. Counted (cond (q == p) ins 0) (cond (q == p) outs 0) (ports_after s x.0)) P.is (elim (cases_eq q p) [
        | inl same ↦
            let both : Some P.port ≡ Some port = sym P.at ∙ ap (slice_get s.ports) same ∙ at in
            let is : P.port ≡ port = cc in
            subst (λ b. Counted (cond b ins 0) (cond b outs 0) (set s.ports q P.changed.0)) (sym (eq-eqb q p same))
            (record {
              later = P.changed.0;
              there = ap (slice_get (set s.ports q P.changed.0)) (sym same) ∙ slice_get-set_same s.ports q P.changed.0 P.port P.at;
              more = subst (λ before. Counts ins outs before P.changed.0) is (each P.port P.changed P.change_is);
            })
        | inr other ↦
            subst (λ b. Counted (cond b ins 0) (cond b outs 0) (set s.ports q P.changed.0)) (sym (ne_eqb q p other))
            (record {
              later = port;
              there = slice_get-set_other s.ports q p P.changed.0 (λ h. other (sym h)) ∙ at;
              more = record { in_more = omega arith; out_more = omega arith };
            })
      ])

  -- a change of a node
  node_counted : (change : Node × List (ℕ × Token) → Own Node × List (ℕ × Token)) → ((after : Node × List (ℕ × Token)) → (change after).0 ≡ OfNode after.0)
      → (found : Option (Node × List (ℕ × Token))) (r : Own Node × List (ℕ × Token)) → option_map change found ≡ Some r → Counted 0 0 (ports_after s r.0)
  node_counted change is_node None r e = cc
  node_counted change is_node (Some after) r e =
      let same : change after ≡ r = cc in
      let now : OfNode after.0 ≡ r.0 = sym (is_node after) ∙ ap (λ x. x.0) same in
      subst (λ own. Counted 0 0 (ports_after s own)) now stays_counted

  abbrev none_of : Bool → ℕ
  none_of b = cond b 0 0

  none_is : (b : Bool) → none_of b ≡ 0
  none_is true = refl
  none_is false = refl

  module _ (M : Machine Node) (N : ℕ) where
    -- a token that comes in at an end
    came_counted : (end : Option WireEnd) (token : Token) (was : Own Node) (r : Own Node × List (ℕ × Token)) → ((ports : List Port) → was ≡ OfHost ports → s.ports ≡ ports)
        → receives M N end token was ≡ Some r → Counted 0 (cond (is_at p end) (byte_of token) 0) (ports_after s r.0)
    unfolding receives
    came_counted None token was r host e = cc
    came_counted (Some (Link i k)) token (OfHost ports) r host e = cc
    came_counted (Some (Link i k)) token (OfNode node) r host e = node_counted (of_node i) (λ after. refl) (M.took node k token) r e
    came_counted (Some (AtPort q)) token (OfNode node) r host e = cc
    came_counted (Some (AtPort q)) token (OfHost ports) r host e =
        subst (λ n. Counted n (cond (q == p) (byte_of token) 0) (ports_after s r.0)) (none_is (q == p))
        (port_counted N q (port_took token) r (ap (λ ps. of_port N q ps (port_took token)) (host ports refl) ∙ e) 0 (byte_of token) (took_counts token))

    does_counted : (e : Entry) (was : Own Node) (r : Own Node × List (ℕ × Token)) → ((ports : List Port) → was ≡ OfHost ports → s.ports ≡ ports)
        → does M s.wires N e was ≡ Some r → Counted (cond (is_input p e) 1 0) (cond (is_output s.wires p e) 1 0) (ports_after s r.0)
    unfolding does
    does_counted (Run i k) (OfHost ports) r host e = cc
    does_counted (Run i k) (OfNode node) r host e =
        node_counted (of_node i) (λ after. refl) (steps M k node) r (tested (nat_lt 0 k && nat_le k MAX_STEPS) (option_map (of_node i) (steps M k node)) r e).1
    does_counted (Take line (Data b)) was r host e = came_counted (receiver s.wires line) (Data b) was r host e
    does_counted (Take line Ack) was r host e =
        subst (λ n. Counted 0 n (ports_after s r.0)) (none_is (is_at p (receiver s.wires line))) (came_counted (receiver s.wires line) Ack was r host e)
    does_counted (Take line Marker) was r host e =
        subst (λ n. Counted 0 n (ports_after s r.0)) (none_is (is_at p (receiver s.wires line))) (came_counted (receiver s.wires line) Marker was r host e)
    does_counted (Turn i links k) (OfHost ports) r host e = cc
    does_counted (Turn i links k) (OfNode node) r host e =
        let T = turn_step M s.wires N i links k node r e in subst (λ x. Counted 0 0 (ports_after s x.0)) T.is stays_counted
    does_counted (HostIn q x) (OfNode node) r host e = cc
    does_counted (HostIn q x) (OfHost ports) r host e =
        subst (λ n. Counted (cond (q == p) 1 0) n (ports_after s r.0)) (none_is (q == p))
        (port_counted N q (handed_in x) r (ap (λ ps. of_port N q ps (handed_in x)) (host ports refl) ∙ e) 1 0 (handed_counts x))
    does_counted (Confirm q upto) (OfNode node) r host e = cc
    does_counted (Confirm q upto) (OfHost ports) r host e =
        subst (λ n. Counted n 0 (ports_after s r.0)) (none_is (q == p))
        (subst (λ n. Counted (none_of (q == p)) n (ports_after s r.0)) (none_is (q == p))
        (port_counted N q (confirmed upto) r (ap (λ ps. of_port N q ps (confirmed upto)) (host ports refl) ∙ e) 0 0 (confirmed_counts upto)))

  entry_counted : (M : Machine Node) (e : Entry) (t : Network Node) → next M s e ≡ Some t → Counted (cond (is_input p e) 1 0) (cond (is_output s.wires p e) 1 0) t.ports
  entry_counted M e t h =
      let S = step_of M s e t h in
      let ports : ports_after s S.now ≡ t.ports = sym (put_ports (record s { lines = sent (has_wire s.wires) S.out S.sends }) (process s.wires (length s.nodes) e) S.now) ∙ ap (λ u. u.ports) S.makes in
      subst (Counted (cond (is_input p e) 1 0) (cond (is_output s.wires p e) 1 0)) ports
      (does_counted M (length s.nodes) e S.was (S.now, S.sends) (λ hosts is. (own_host s (process s.wires (length s.nodes) e) hosts (S.own_was ∙ ap Some is)).1) S.change)

-- ## Entries, one after the other

-- the port after entries: its accepted number has grown by its inputs, and what came out by its outputs
pub after_counted : {Node : Type 0} (M : Machine Node) → HasFourLinks M → (s t : Network Node) (es : List Entry) → after M s es ≡ Some t
    → (p : ℕ) (port : Port) → slice_get s.ports p ≡ Some port
    → (later : Port) × (slice_get t.ports p ≡ Some later) × (accepted later ≡ accepted port + count_by (is_input p) es) × (came_out later ≡ came_out port + count_by (is_output s.wires p) es)
unfolding after
after_counted M four s t [] h p port at =
    let same : s ≡ t = cc in
    (port, ap (λ u. slice_get u.ports p) (sym same) ∙ at, omega arith, omega arith)
after_counted M four s t (e ∷ es) h p port at =
    let F = first_possible M s t e es h in
    let one = entry_counted s p port at M e F.0 F.1 in
    let rest = after_counted M four F.0 t es F.2 p one.later one.there in
    let shape = step_shape M four s e F.0 (step_of M s e F.0 F.1) in
    let ins = sum_by-cons (λ x. cond (is_input p x) 1 0) e es in
    let outs = sum_by-cons (λ x. cond (is_output s.wires p x) 1 0) e es in
    let wires = ap (λ ws. count_by (is_output ws p) es) shape.wires in
    (rest.0, rest.1, omega (arith, rest.2, one.more.in_more, ins), omega (arith, rest.3, one.more.out_more, outs, wires))
