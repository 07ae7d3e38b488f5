-- Every entry keeps what networks in one thread keep, and what it sends finds room.
use Rattle.std.proofs.Common.{◌≡◌, ℕ, ◌<◌, ◌≤◌, inl, inr, List, [], ◌∷◌, ◌++◌, length, sym, ap, subst, ◌∙◌, arith, Option, Some, None, slice_get}
use Rattle.std.specs.Prelude.{nat_lt, nat_le, ◌&&◌}
use Rattle.tp_replay.proofs.Lower.{option_map, cases_eq, slice_get_within, Token, WireEnd, Link, AtPort, Entry, Run, Take, HostIn, Confirm, Turn, MAX_STEPS, NodeState, t414, t414_ends, took, steps, Port, Network, Own, OfNode, OfHost, own, receiver, has_wire, on_line, by_link, took_all, process, takes, of_node, of_port, receives, port_took, handed_in, confirmed, does, next, markers, length_taken, Step, step_of, next_from, own_node, own-node, port_step, turn_step, SameShape, step_shape, step_lines, step_own_same, step_own_other, bind_some, map_some, cond_some, Sound, line_room, step_markers, sound_kept, CarriesByte, CarryBytes, IsNodeOfBytes, has_four_links, keeps_flight, never_marks, node_steps, node_took, HasRoom, room_before}
use Rattle.tp_replay.specs.Flat.{IsFlat, EntryTakesByte}

-- ## The node whose entry it is

-- a process that is a node stays one
abbrev pub StaysNode : Own NodeState → Type 0
StaysNode (OfNode n) = IsNodeOfBytes n
StaysNode (OfHost ports) = Unit {0}

record Stays (state : Own NodeState) : Type 0 where
  is : StaysNode state

node_stays : (i : ℕ) (given : Option (NodeState × List (ℕ × Token))) (r : Own NodeState × List (ℕ × Token)) → ((x : NodeState × List (ℕ × Token)) → given ≡ Some x → IsNodeOfBytes x.0)
    → option_map (of_node i) given ≡ Some r → Stays r.0
node_stays i given r h e =
    let Q = map_some (of_node i) given r e in
    subst (λ y. Stays y.0) Q.2 (record { is = h Q.0 Q.1 })

port_stays : (N p : ℕ) (ports : List Port) (change : Port → Option (Port × List Token)) (r : Own NodeState × List (ℕ × Token)) → of_port N p ports change ≡ Some r → Stays r.0
port_stays N p ports change r e = let P = port_step N p ports change r e in subst (λ y. Stays y.0) P.is (record { is = tt })

receives_stays : (N : ℕ) (end : Option WireEnd) (token : Token) (was : Own NodeState) (r : Own NodeState × List (ℕ × Token)) → Stays was → CarriesByte token → receives t414 N end token was ≡ Some r → Stays r.0
unfolding receives
receives_stays N (Some (Link i k)) token (OfNode n) r node low e = node_stays i (took n k token) r (λ x h. (node_took n k token x node.is low h).0) e
receives_stays N (Some (AtPort p)) token (OfHost ports) r node low e = port_stays N p ports (port_took token) r e
receives_stays N (Some (Link i k)) token (OfHost ports) r node low e = cc
receives_stays N (Some (AtPort p)) token (OfNode n) r node low e = cc
receives_stays N None token (OfNode n) r node low e = cc
receives_stays N None token (OfHost ports) r node low e = cc

-- so does a node that takes tokens one after the other
all_stay : (ms : List (ℕ × Token)) (n : NodeState) (r : NodeState × List (ℕ × Token)) → IsNodeOfBytes n → CarryBytes ms → took_all t414 ms n ≡ Some r → IsNodeOfBytes r.0
unfolding took_all
all_stay [] n r node low e =
    let is : ◌≡◌ {A = NodeState × List (ℕ × Token)} (n, []) r = cc in
    subst (λ x. IsNodeOfBytes x.0) is node
all_stay (m ∷ ms) n r node low e =
    let F = bind_some (took n m.0 m.1) _ r e in
    let R = bind_some (took_all t414 ms F.0.0) _ r F.2 in
    let is : ◌≡◌ {A = NodeState × List (ℕ × Token)} (R.0.0, F.0.1 ++ R.0.1) r = cc in
    subst (λ x. IsNodeOfBytes x.0) is (all_stay ms F.0.0 R.0 (node_took n m.0 m.1 F.0 node low.0 F.1).0 low.1 R.1)

does_stays : (s : Network NodeState) (e : Entry) (was : Own NodeState) (r : Own NodeState × List (ℕ × Token)) → Stays was → EntryTakesByte e → does t414 s.wires (length s.nodes) e was ≡ Some r → Stays r.0
unfolding does
does_stays s (Run i k) (OfNode n) r node low e =
    let C = cond_some (nat_lt 0 k && nat_le k MAX_STEPS) (option_map (of_node i) (steps t414 k n)) r e in
    node_stays i (steps t414 k n) r (λ x h. (node_steps k n x node.is h).0) C.1
does_stays s (Run i k) (OfHost ports) r node low e = cc
does_stays s (Take l t) was r node low e = receives_stays (length s.nodes) (receiver s.wires l) t was r node low e
does_stays s (HostIn p b) (OfHost ports) r node low e = port_stays (length s.nodes) p ports (handed_in b) r e
does_stays s (HostIn p b) (OfNode n) r node low e = cc
does_stays s (Confirm p upto) (OfHost ports) r node low e = port_stays (length s.nodes) p ports (confirmed upto) r e
does_stays s (Confirm p upto) (OfNode n) r node low e = cc
does_stays s (Turn i links k) (OfNode n) r node low e =
    let T = turn_step t414 s.wires (length s.nodes) i links k n r e in
    subst (λ y. Stays y.0) T.is (record { is = (node_steps k T.taken_all.0 T.run (all_stay (by_link 0 links) n T.taken_all node.is low T.takes_all) T.runs).0 })
does_stays s (Turn i links k) (OfHost ports) r node low e = cc

own_stays : (s : Network NodeState) → IsFlat s → (p : ℕ) (was : Own NodeState) → own s p ≡ Some was → Stays was
own_stays s F p (OfNode n) e = record { is = F.nodes p n (own_node s p n e).1 }
own_stays s F p (OfHost ports) e = record { is = tt }

-- the node that a state is
stays_node : (state : Own NodeState) (n : NodeState) → Some state ≡ Some (OfNode n) → Stays state → IsNodeOfBytes n
stays_node (OfNode m) n e node = let same : m ≡ n = cc in subst IsNodeOfBytes same node.is
stays_node (OfHost ports) n e node = cc

-- ## Kept

module _ (s : Network NodeState) (F : IsFlat s) (e : Entry) (t : Network NodeState) (S : Step t414 s e t) where
  shape : SameShape s t
  shape = step_shape t414 has_four_links s e t S

  now_stays : EntryTakesByte e → Stays S.now
  now_stays low = does_stays s e S.was (S.now, S.sends) (own_stays s F (process s.wires (length s.nodes) e) S.was S.own_was) low S.change

  nodes_step : EntryTakesByte e → (i : ℕ) (n : NodeState) → slice_get t.nodes i ≡ Some n → IsNodeOfBytes n
  nodes_step low i n at =
      let below : i < length t.nodes = slice_get_within t.nodes i n at in
      let here : own t i ≡ Some (OfNode n) = own-node t i (λ same. omega arith) ∙ ap (option_map OfNode) at in
      elim (cases_eq i (process s.wires (length s.nodes) e)) [
        | inl mine ↦ stays_node S.now n (sym (step_own_same t414 has_four_links s e t S) ∙ ap (own t) (sym mine) ∙ here) (now_stays low)
        | inr other ↦ F.nodes i n (own_node s i n (sym (step_own_other t414 has_four_links s e t S i other) ∙ here)).1
      ]

  -- it takes no Marker and sends none
  markers_step : (line : ℕ) → markers (on_line t.lines line) ≡ markers (on_line s.lines line)
  markers_step = step_markers t414 never_marks s e t has_four_links S

  sound_step : Sound t414_ends t
  sound_step = sound_kept has_four_links keeps_flight s t e F.sound (next_from t414 s e t S)

  marked_step : (line : ℕ) → markers (on_line t.lines line) ≤ 1
  marked_step line = subst (λ n. n ≤ 1) (sym (markers_step line)) (F.marked line)

  pub flat_step : EntryTakesByte e → IsFlat t
  flat_step low = record {
    sound = sound_step;
    shaped = record {
      wires = omega (arith, ap length shape.wires, shape.nodes, shape.ports, F.shaped.wires);
      lines = omega (arith, shape.lines, shape.nodes, shape.ports, F.shaped.lines);
      few_nodes = omega (arith, shape.nodes, F.shaped.few_nodes);
      few_ports = omega (arith, shape.ports, F.shaped.few_ports);
    };
    marked = marked_step;
    nodes = nodes_step low;
  }

  -- What the entry sends finds room.
  pub room_step : HasRoom (has_wire s.wires) S.out S.sends
  room_step =
      room_before (has_wire s.wires) S.out S.sends
      (λ l y. omega (arith, length_taken s.lines (takes s.wires (length s.nodes) e) S.out S.takes_out, F.sound.there l y))
      (λ l. subst (λ ls. length (on_line ls l) ≤ 3) (step_lines t414 has_four_links s e t S) (omega (arith, line_room sound_step l, marked_step l)))

-- Every entry keeps it.
pub flat_next : (s : Network NodeState) (e : Entry) (t : Network NodeState) → IsFlat s → EntryTakesByte e → next t414 s e ≡ Some t → IsFlat t
flat_next s e t F low h = flat_step s F e t (step_of t414 s e t h) low

-- It takes no Marker and sends none.
pub markers_next : (s : Network NodeState) (e : Entry) (t : Network NodeState) → IsFlat s → next t414 s e ≡ Some t → (line : ℕ) → markers (on_line t.lines line) ≡ markers (on_line s.lines line)
markers_next s e t F h line = markers_step s F e t (step_of t414 s e t h) line
