-- What each change of a port keeps, every entry keeps; so a port never holds more than it has room for.
use Rattle.std.proofs.Common.{◌≡◌, ℕ, ◌+◌, ◌-◌, ◌≤◌, inl, inr, List, [], ◌∷◌, ◌++◌, length, set, drop, sym, ap, subst, ◌∙◌, arith, Option, Some, None, slice_get, length-append, length-drop}
use Rattle.std.specs.Prelude.{nat_lt, nat_le, ◌&&◌}
use Rattle.tp_recover.proofs.Lower.{option_map, cases_eq, ltb-true, Token, Data, Ack, Marker, WireEnd, Link, AtPort, Entry, Run, Take, HostIn, Confirm, Turn, MAX_STEPS, MAX_HELD, NodeState, t414, took, steps, Port, Network, Own, OfNode, OfHost, own, put, receiver, has_wire, sent, process, of_node, of_port, receives, port_took, handed_in, confirmed, acked, first_only, in_flight, does, next, step_of, own_host, port_step, turn_step, map_some, cond_some, slice_get-set_same, slice_get-set_other}

-- ## Of any property

-- it is true of each port
abbrev pub EachPort : (Port → Type 0) → List Port → Type 0
EachPort P ports = (p : ℕ) (port : Port) → slice_get ports p ≡ Some port → P port

-- each change of a port keeps it
pub record PortsKeep (P : Port → Type 0) : Type 0 where
  pub taken : (token : Token) (port : Port) (after : Port × List Token) → P port → port_took token port ≡ Some after → P after.0
  pub handed : (byte : ℕ) (port : Port) (after : Port × List Token) → P port → handed_in byte port ≡ Some after → P after.0
  pub confirms : (upto : ℕ) (port : Port) (after : Port × List Token) → P port → confirmed upto port ≡ Some after → P after.0

-- of a process's ports, if it is the host
abbrev EachOf : (Port → Type 0) → Own NodeState → Type 0
EachOf P (OfNode node) = Unit {0}
EachOf P (OfHost ports) = EachPort P ports

record OwnKeeps (P : Port → Type 0) (state : Own NodeState) : Type 0 where
  is : EachOf P state

module _ (P : Port → Type 0) (keeps : PortsKeep P) where
  node_keeps : (i : ℕ) (given : Option (NodeState × List (ℕ × Token))) (r : Own NodeState × List (ℕ × Token)) → option_map (of_node i) given ≡ Some r → OwnKeeps P r.0
  node_keeps i given r e = let Q = map_some (of_node i) given r e in subst (λ y. OwnKeeps P y.0) Q.2 (record { is = tt })

  port_keeps : (N p : ℕ) (ports : List Port) (change : Port → Option (Port × List Token)) (r : Own NodeState × List (ℕ × Token)) → EachPort P ports
      → ((port : Port) (after : Port × List Token) → P port → change port ≡ Some after → P after.0)
      → of_port N p ports change ≡ Some r → OwnKeeps P r.0
  port_keeps N p ports change r all each e =
      let S = port_step N p ports change r e in
      subst (λ y. OwnKeeps P y.0) S.is (record {
        is = λ q port at. elim (cases_eq q p) [
          | inl same ↦
              let there = slice_get-set_same ports p S.changed.0 S.port S.at in
              let at_p : slice_get (set ports p S.changed.0) p ≡ Some port = ap (slice_get (set ports p S.changed.0)) (sym same) ∙ at in
              let is : S.changed.0 ≡ port = cc (there, at_p) in
              subst P is (each S.port S.changed (all p S.port S.at) S.change_is)
          | inr other ↦ all q port (sym (slice_get-set_other ports p q S.changed.0 other) ∙ at)
        ];
      })

  receives_keeps : (N : ℕ) (end : Option WireEnd) (token : Token) (was : Own NodeState) (r : Own NodeState × List (ℕ × Token)) → OwnKeeps P was → receives t414 N end token was ≡ Some r → OwnKeeps P r.0
  unfolding receives
  receives_keeps N (Some (Link i k)) token (OfNode node) r kept e = node_keeps i (took node k token) r e
  receives_keeps N (Some (AtPort p)) token (OfHost ports) r kept e = port_keeps N p ports (port_took token) r kept.is (keeps.taken token) e
  receives_keeps N (Some (Link i k)) token (OfHost ports) r kept e = cc
  receives_keeps N (Some (AtPort p)) token (OfNode node) r kept e = cc
  receives_keeps N None token (OfNode node) r kept e = cc
  receives_keeps N None token (OfHost ports) r kept e = cc

  does_keeps : (s : Network NodeState) (e : Entry) (was : Own NodeState) (r : Own NodeState × List (ℕ × Token)) → OwnKeeps P was → does t414 s.wires (length s.nodes) e was ≡ Some r → OwnKeeps P r.0
  unfolding does
  does_keeps s (Run i k) (OfNode node) r kept e =
      let C = cond_some (nat_lt 0 k && nat_le k MAX_STEPS) (option_map (of_node i) (steps t414 k node)) r e in
      node_keeps i (steps t414 k node) r C.1
  does_keeps s (Run i k) (OfHost ports) r kept e = cc
  does_keeps s (Take l t) was r kept e = receives_keeps (length s.nodes) (receiver s.wires l) t was r kept e
  does_keeps s (HostIn p b) (OfHost ports) r kept e = port_keeps (length s.nodes) p ports (handed_in b) r kept.is (keeps.handed b) e
  does_keeps s (HostIn p b) (OfNode node) r kept e = cc
  does_keeps s (Confirm p upto) (OfHost ports) r kept e = port_keeps (length s.nodes) p ports (confirmed upto) r kept.is (keeps.confirms upto) e
  does_keeps s (Confirm p upto) (OfNode node) r kept e = cc
  does_keeps s (Turn i links k) (OfNode node) r kept e =
      let T = turn_step t414 s.wires (length s.nodes) i links k node r e in
      subst (λ y. OwnKeeps P y.0) T.is (record { is = tt })
  does_keeps s (Turn i links k) (OfHost ports) r kept e = cc

  own_keeps : (s : Network NodeState) (p : ℕ) (was : Own NodeState) → EachPort P s.ports → own s p ≡ Some was → OwnKeeps P was
  own_keeps s p (OfNode node) all e = record { is = tt }
  own_keeps s p (OfHost ports) all e = record { is = subst (EachPort P) (own_host s p ports e).1 all }

  put_keeps : (s : Network NodeState) (p : ℕ) (now : Own NodeState) → EachPort P s.ports → OwnKeeps P now → EachPort P (put s p now).ports
  unfolding put
  put_keeps s p (OfNode node) all kept = all
  put_keeps s p (OfHost ports) all kept = kept.is

  -- Every entry keeps it.
  pub ports_next : (s : Network NodeState) (e : Entry) (t : Network NodeState) → EachPort P s.ports → next t414 s e ≡ Some t → EachPort P t.ports
  ports_next s e t all h =
      let S = step_of t414 s e t h in
      subst (λ u. EachPort P u.ports) S.makes
      (put_keeps (record s { lines = sent (has_wire s.wires) S.out S.sends }) (process s.wires (length s.nodes) e) S.now all
      (does_keeps s e S.was (S.now, S.sends) (own_keeps s (process s.wires (length s.nodes) e) S.was all S.own_was) S.change))

-- ## What a port has room for

pub record IsHeld (port : Port) : Type 0 where
  pub pending : length port.pending ≤ MAX_HELD
  pub outputs : length port.outputs ≤ MAX_HELD

some_held : (x after : Port × List Token) → Some x ≡ Some after → IsHeld x.0 → IsHeld after.0
some_held x after e held = let same : x ≡ after = cc in subst (λ y. IsHeld y.0) same held

took_held : (token : Token) (port : Port) (after : Port × List Token) → IsHeld port → port_took token port ≡ Some after → IsHeld after.0
took_held (Data byte) port after held e =
    let C = cond_some (nat_lt (length port.outputs) MAX_HELD) (Some (record port { outputs = port.outputs ++ byte ∷ [] }, Ack ∷ [])) after e in
    let room = ltb-true (length port.outputs) MAX_HELD C.0 in
    some_held (record port { outputs = port.outputs ++ byte ∷ [] }, Ack ∷ []) after C.1
    (record { pending = held.pending; outputs = omega (arith, room, length-append port.outputs (byte ∷ [])) })
took_held Ack port after held e = go port.pending held.pending e
  where
    go : (pending : List ℕ) → length pending ≤ MAX_HELD → acked pending port ≡ Some after → IsHeld after.0
    go [] few e = cc
    go (x ∷ xs) few e =
        some_held (record port { pending = xs; in_base = port.in_base + 1 }, in_flight xs) after e
        (record { pending = omega (arith, few); outputs = held.outputs })
took_held Marker port after held e = cc

handed_held : (byte : ℕ) (port : Port) (after : Port × List Token) → IsHeld port → handed_in byte port ≡ Some after → IsHeld after.0
handed_held byte port after held e =
    let C = cond_some (nat_lt (length port.pending) MAX_HELD) (Some (record port { pending = port.pending ++ byte ∷ [] }, first_only port.pending byte)) after e in
    let room = ltb-true (length port.pending) MAX_HELD C.0 in
    some_held (record port { pending = port.pending ++ byte ∷ [] }, first_only port.pending byte) after C.1
    (record { pending = omega (arith, room, length-append port.pending (byte ∷ [])); outputs = held.outputs })

confirmed_held : (upto : ℕ) (port : Port) (after : Port × List Token) → IsHeld port → confirmed upto port ≡ Some after → IsHeld after.0
confirmed_held upto port after held e =
    let C = cond_some (nat_lt port.out_base upto && nat_le upto (port.out_base + length port.outputs)) (Some (record port { outputs = drop (upto - port.out_base) port.outputs; out_base = upto }, [])) after e in
    some_held (record port { outputs = drop (upto - port.out_base) port.outputs; out_base = upto }, []) after C.1
    (record { pending = held.pending; outputs = omega (arith, held.outputs, length-drop (upto - port.out_base) port.outputs) })

pub held_next : (s : Network NodeState) (e : Entry) (t : Network NodeState) → EachPort IsHeld s.ports → next t414 s e ≡ Some t → EachPort IsHeld t.ports
held_next = ports_next IsHeld (record { taken = took_held; handed = handed_held; confirms = confirmed_held })
