-- An entry that is possible has a spelling, if its data are bytes.
use Rattle.std.proofs.Common.{◌≡◌, ℕ, ◌+◌, ◌<◌, ◌≤◌, inl, inr, true, List, [], ◌∷◌, length, refl, sym, ap, ◌∙◌, arith, Option, Some, None, slice_get}
use Rattle.std.specs.Prelude.{nat_lt, nat_le, ◌&&◌, ◌==◌}
use Rattle.tp_law_device.proofs.Lower.{AllByRecursion, list_all, option_map, and_from, and_parts, eq-eqb, lt-ltb, leb-true, cases_lt, slice_get_within, get_or_past, Token, Data, Ack, Marker, WireEnd, Link, AtPort, Taken, Nothing, JustData, JustAck, DataThenAck, AckThenData, Entry, Take, HostIn, Confirm, Turn, MAX_NODES, MAX_STEPS, MAX_PORTS, NUMBER_LIMIT, ENTRY_NODES, ENTRY_LINES, NodeState, t414, took, steps, Port, Network, Own, OfNode, OfHost, own, receiver, by_link, process, of_node, of_port, receives, port_took, handed_in, confirmed, does, next, is_received, is_token, is_in_range, never_marks, turn_step, own_node, own_host, port_step, map_some, cond_some, TakesByte, HasByte, Topology}
use Rattle.tp_model.specs.declared.entry.Entry.TheVariants.{Run}
use Rattle.tp_law_network.proofs.Local.{step_of}
use Rattle.tp_law_device.proofs.Kept.{CutKeeps}

token_range : (line : ℕ) (token : Token) → HasByte (Take line token) → (token ≡ Marker → ⊥) → is_token token ≡ true
token_range line (Data byte) low plain = lt-ltb byte 256 low
token_range line Ack low plain = refl
token_range line Marker low plain = absurd (plain refl)

-- what a line takes somewhere is no Marker, and the line is there
record Received (wires : List (Option WireEnd)) (line : ℕ) (token : Token) : Type 0 where
  there : line < length wires
  plain : token ≡ Marker → ⊥

no_marker_at_port : (port : Port) (after : Port × List Token) (token : Token) → port_took token port ≡ Some after → token ≡ Marker → ⊥
no_marker_at_port port after (Data byte) e is = cc
no_marker_at_port port after Ack e is = cc
no_marker_at_port port after Marker e is = cc

received : (N : ℕ) (wires : List (Option WireEnd)) (line : ℕ) (token : Token) (was : Own NodeState) (r : Own NodeState × List (ℕ × Token)) → receives t414 N (receiver wires line) token was ≡ Some r
    → Received wires line token
unfolding receives
received N wires line token was r e = record { there = there; plain = plain (receiver wires line) was e }
  where
    none : (was : Own NodeState) → receives t414 N None token was ≡ Some r → ⊥
    none (OfNode n) e = cc
    none (OfHost ports) e = cc

    there : line < length wires
    there = elim (cases_lt line (length wires)) [
      | inl low ↦ low
      | inr past ↦ absurd (none was (ap (λ end. receives t414 N end token was) (sym (get_or_past wires line None past)) ∙ e))
    ]

    plain : (end : Option WireEnd) (was : Own NodeState) → receives t414 N end token was ≡ Some r → token ≡ Marker → ⊥
    plain (Some (Link i k)) (OfNode n) e is =
        let Q = map_some (of_node i) (took n k token) r e in
        let none : took n k Marker ≡ None = never_marks.none n k in
        let some : took n k Marker ≡ Some Q.0 = ap (took n k) (sym is) ∙ Q.1 in
        absurd (cc)
    plain (Some (AtPort p)) (OfHost ports) e is = let P = port_step N p ports (port_took token) r e in no_marker_at_port P.port P.changed token P.change_is is
    plain (Some (Link i k)) (OfHost ports) e is = cc
    plain (Some (AtPort p)) (OfNode n) e is = cc
    plain None (OfNode n) e is = cc
    plain None (OfHost ports) e is = cc

run_range : (s : Network NodeState) (i k : ℕ) (was : Own NodeState) (r : Own NodeState × List (ℕ × Token)) → length s.nodes ≤ MAX_NODES → own s i ≡ Some was → does t414 s.wires (length s.nodes) (Run i k) was ≡ Some r
    → is_in_range (Run i k) ≡ true
unfolding does
run_range s i k (OfNode n) r few at e =
    let C = cond_some (nat_lt 0 k && nat_le k MAX_STEPS) (option_map (of_node i) (steps t414 k n)) r e in
    let both = and_parts (nat_lt 0 k) (nat_le k MAX_STEPS) C.0 in
    and_from (nat_lt i ENTRY_NODES) (nat_le 1 k && nat_le k MAX_STEPS) (lt-ltb i ENTRY_NODES (omega (arith, few, (own_node s i n at).0))) (and_from (nat_le 1 k) (nat_le k MAX_STEPS) both.0 both.1)
run_range s i k (OfHost ports) r few at e = cc

taken_low : (takes : List Taken) → AllByRecursion TakesByte takes → list_all is_received takes ≡ true
taken_low [] low = refl
taken_low (Nothing ∷ takes) low = taken_low takes low.1
taken_low (JustData byte ∷ takes) low = and_from (nat_lt byte 256) (list_all is_received takes) (lt-ltb byte 256 low.0) (taken_low takes low.1)
taken_low (JustAck ∷ takes) low = taken_low takes low.1
taken_low (DataThenAck byte ∷ takes) low = and_from (nat_lt byte 256) (list_all is_received takes) (lt-ltb byte 256 low.0) (taken_low takes low.1)
taken_low (AckThenData byte ∷ takes) low = and_from (nat_lt byte 256) (list_all is_received takes) (lt-ltb byte 256 low.0) (taken_low takes low.1)

turn_range : (s : Network NodeState) (i : ℕ) (takes : List Taken) (k : ℕ) (was : Own NodeState) (r : Own NodeState × List (ℕ × Token)) → length s.nodes ≤ MAX_NODES → HasByte (Turn i takes k) → own s i ≡ Some was
    → does t414 s.wires (length s.nodes) (Turn i takes k) was ≡ Some r → is_in_range (Turn i takes k) ≡ true
unfolding does
turn_range s i takes k (OfNode n) r few byte at e =
    let T = turn_step t414 s.wires (length s.nodes) i takes k n r e in
    and_from (nat_lt i ENTRY_NODES && nat_le k MAX_STEPS) ((length takes == 4) && (nat_lt 0 (length (by_link 0 takes)) && list_all is_received takes))
    (and_from (nat_lt i ENTRY_NODES) (nat_le k MAX_STEPS) (lt-ltb i ENTRY_NODES (omega (arith, few, (own_node s i n at).0))) T.few)
    (and_from (length takes == 4) (nat_lt 0 (length (by_link 0 takes)) && list_all is_received takes) (eq-eqb (length takes) 4 byte.1)
    (and_from (nat_lt 0 (length (by_link 0 takes))) (list_all is_received takes) T.some (taken_low takes byte.0)))
turn_range s i takes k (OfHost ports) r few byte at e = cc

-- the ports of a process that is the host
port_there : (s : Network NodeState) (p : ℕ) (ports : List Port) (change : Port → Option (Port × List Token)) (r : Own NodeState × List (ℕ × Token)) → length s.ports ≤ 8 → s.ports ≡ ports
    → of_port (length s.nodes) p ports change ≡ Some r → nat_lt p MAX_PORTS ≡ true
port_there s p ports change r few same e =
    let P = port_step (length s.nodes) p ports change r e in
    lt-ltb p MAX_PORTS (omega (arith, few, ap length same, slice_get_within ports p P.port P.at))

pub in_range_next : (t : Topology) (s : Network NodeState) (e : Entry) (u : Network NodeState) (count : ℕ) → CutKeeps t count s → count < NUMBER_LIMIT → HasByte e → next t414 s e ≡ Some u → is_in_range e ≡ true
unfolding process does
in_range_next t s e u count K low byte h =
    let S = step_of t414 s e u h in
    go e S.was (S.now, S.sends) byte S.own_was S.change
  where
    go : (e : Entry) (was : Own NodeState) (r : Own NodeState × List (ℕ × Token)) → HasByte e → own s (process s.wires (length s.nodes) e) ≡ Some was → does t414 s.wires (length s.nodes) e was ≡ Some r → is_in_range e ≡ true
    go (Run i k) was r byte at e = run_range s i k was r K.few_nodes at e
    go (Take line token) was r byte at e =
        let R = received (length s.nodes) s.wires line token was r e in
        and_from (nat_lt line ENTRY_LINES) (is_token token) (lt-ltb line ENTRY_LINES (omega (arith, R.there, K.wired, K.few_nodes, K.few_ports))) (token_range line token byte R.plain)
    go (HostIn p x) (OfHost ports) r byte at e =
        and_from (nat_lt p MAX_PORTS) (nat_lt x 256) (port_there s p ports (handed_in x) r K.few_ports (own_host s (length s.nodes) ports at).1 e) (lt-ltb x 256 byte)
    go (HostIn p x) (OfNode n) r byte at e = cc
    go (Confirm p upto) (OfHost ports) r byte at e =
        let same = (own_host s (length s.nodes) ports at).1 in
        let P = port_step (length s.nodes) p ports (confirmed upto) r e in
        let one = K.ports p P.port (ap (λ ps. slice_get ps p) same ∙ P.at) in
        let C = cond_some (nat_lt P.port.out_base upto && nat_le upto (P.port.out_base + length P.port.outputs)) _ P.changed P.change_is in
        let both = and_parts (nat_lt P.port.out_base upto) (nat_le upto (P.port.out_base + length P.port.outputs)) C.0 in
        and_from (nat_lt p MAX_PORTS) (nat_lt upto NUMBER_LIMIT) (port_there s p ports (confirmed upto) r K.few_ports same e)
        (lt-ltb upto NUMBER_LIMIT (omega (arith, leb-true upto (P.port.out_base + length P.port.outputs) both.1, one.confirmed_low, low)))
    go (Confirm p upto) (OfNode n) r byte at e = cc
    go (Turn i links k) was r byte at e = turn_range s i links k was r K.few_nodes byte at e
