-- A step over lines with Markers is a step over the lines without them.
use Rattle.std.proofs.Common.{◌≡◌, ℕ, ◌+◌, ◌*◌, false, List, [], ◌∷◌, ◌++◌, length, map, refl, sym, ap, subst, ◌∙◌, Option, Some, None}
use Rattle.std.specs.Prelude.{nat_lt, nat_le, ◌&&◌}
use Rattle.tp_law_network.proofs.Lower.{option_map, Token, Data, Ack, Marker, Received, Nothing, JustData, JustAck, DataThenAck, AckThenData, WireEnd, Link, AtPort, Entry, Run, Take, HostIn, Confirm, Turn, MAX_STEPS, MAX_HELD, Machine, steps, Port, Network, Own, OfNode, OfHost, own, put, receiver, has_wire, on_line, taken, sent, by_link, incoming, took_all, process, takes, acked, port_took, first_only, handed_in, confirmed, of_node, of_port, receives, does, next, HasFourLinks, is_marker, plain, markers, plain_network, NeverMarks}
use Rattle.tp_law_network.proofs.Partial.{all_append, bind_some, map_some, cond_some}
use Rattle.tp_law_network.proofs.Local.{Step, step_of, next_from, step_lines, port_step, process_same, takes_same, turn_step}
use Rattle.tp_law_network.proofs.Room.{steps_unmarked, own-plain}
use Rattle.tp_law_network.proofs.Marks.{AreUnmarked, HasNoMarker, taken_plain, sent_plain, markers-taken, markers-sent}

-- ## No Marker is sent by a process, and none is taken

unmarked_shifted : (base : ℕ) (ms : List (ℕ × Token)) → AreUnmarked ms → AreUnmarked (map (λ m. (base + m.0, m.1)) ms)
unmarked_shifted base [] a = tt
unmarked_shifted base (m ∷ ms) a = (a.0, unmarked_shifted base ms a.1)

unmarked_on : (l : ℕ) (ts : List Token) → HasNoMarker ts → AreUnmarked (map (λ t. (l, t)) ts)
unmarked_on l [] a = tt
unmarked_on l (t ∷ ts) a = (a.0, unmarked_on l ts a.1)

took_unmarked : (t : Token) (port : Port) (r : Port × List Token) → port_took t port ≡ Some r → (is_marker t ≡ false) × HasNoMarker r.1
took_unmarked (Data b) port r e =
    let C = cond_some (nat_lt (length port.outputs) MAX_HELD) _ r e in
    let is : ◌≡◌ {A = List Token} (Ack ∷ []) r.1 = cc in
    (refl, subst HasNoMarker is (refl, tt))
took_unmarked Ack port r e = (refl, go port.pending e)
  where
    go : (xs : List ℕ) → acked xs port ≡ Some r → HasNoMarker r.1
    go [] h = cc
    go (x ∷ []) h = let is : ◌≡◌ {A = List Token} [] r.1 = cc in subst HasNoMarker is tt
    go (x ∷ y ∷ ys) h = let is : ◌≡◌ {A = List Token} (Data y ∷ []) r.1 = cc in subst HasNoMarker is (refl, tt)
took_unmarked Marker port r e = cc

handed_unmarked : (x : ℕ) (port : Port) (r : Port × List Token) → handed_in x port ≡ Some r → HasNoMarker r.1
handed_unmarked x port r e =
    let C = cond_some (nat_lt (length port.pending) MAX_HELD) _ r e in
    let is : first_only port.pending x ≡ r.1 = cc in
    subst HasNoMarker is (go port.pending)
  where
    go : (xs : List ℕ) → HasNoMarker (first_only xs x)
    go [] = (refl, tt)
    go (y ∷ ys) = tt

confirmed_unmarked : (upto : ℕ) (port : Port) (r : Port × List Token) → confirmed upto port ≡ Some r → HasNoMarker r.1
confirmed_unmarked upto port r e =
    let C = cond_some (nat_lt port.out_base upto && nat_le upto (port.out_base + length port.outputs)) _ r e in
    let is : ◌≡◌ {A = List Token} [] r.1 = cc in
    subst HasNoMarker is tt

port_unmarked : {Node : Type 0} (N p : ℕ) (ports : List Port) (change : Port → Option (Port × List Token)) (r : Own Node × List (ℕ × Token))
    → ((port : Port) (after : Port × List Token) → change port ≡ Some after → HasNoMarker after.1) → of_port N p ports change ≡ Some r → AreUnmarked r.1
port_unmarked N p ports change r h e =
    let P = port_step N p ports change r e in
    subst (λ x. AreUnmarked x.1) P.is (unmarked_on (4 * N + p) P.changed.1 (h P.port P.changed P.change_is))

-- what is received isn't a Marker, and none is sent for it
receives_unmarked : {Node : Type 0} (M : Machine Node) → NeverMarks M → (N : ℕ) (end : Option WireEnd) (t : Token) (x : Own Node) (r : Own Node × List (ℕ × Token))
    → receives M N end t x ≡ Some r → (is_marker t ≡ false) × AreUnmarked r.1
unfolding receives
receives_unmarked M never N (Some (Link i k)) t (OfNode n) r e =
    let Q = map_some (of_node i) (M.took n k t) r e in
    (not_marker t Q.1, subst (λ y. AreUnmarked y.1) Q.2 (unmarked_shifted (4 * i) Q.0.1 (never.took n k t Q.0 Q.1)))
  where
    not_marker : (u : Token) → M.took n k u ≡ Some (map_some (of_node i) (M.took n k t) r e).0 → is_marker u ≡ false
    not_marker (Data b) h = refl
    not_marker Ack h = refl
    not_marker Marker h = let none = never.none n k in cc
receives_unmarked M never N (Some (AtPort p)) t (OfHost ports) r e =
    let P = port_step N p ports (port_took t) r e in
    ((took_unmarked t P.port P.changed P.change_is).0, port_unmarked N p ports (port_took t) r (λ port after h. (took_unmarked t port after h).1) e)
receives_unmarked M never N (Some (Link i k)) t (OfHost ports) r e = cc
receives_unmarked M never N (Some (AtPort p)) t (OfNode n) r e = cc
receives_unmarked M never N None t (OfNode n) r e = cc
receives_unmarked M never N None t (OfHost ports) r e = cc

-- a turn takes no Marker, and sends none for what it takes
pub unmarked_links : (k : ℕ) (links : List Received) → AreUnmarked (by_link k links)
unmarked_links k [] = tt
unmarked_links k (Nothing ∷ links) = unmarked_links (k + 1) links
unmarked_links k (JustData byte ∷ links) = (refl, unmarked_links (k + 1) links)
unmarked_links k (JustAck ∷ links) = (refl, unmarked_links (k + 1) links)
unmarked_links k (DataThenAck byte ∷ links) = (refl, (refl, unmarked_links (k + 1) links))
unmarked_links k (AckThenData byte ∷ links) = (refl, (refl, unmarked_links (k + 1) links))

pub unmarked_moved : (to : ℕ → ℕ) (ms : List (ℕ × Token)) → AreUnmarked ms → AreUnmarked (map (λ m. (to m.0, m.1)) ms)
unmarked_moved to [] a = tt
unmarked_moved to (m ∷ ms) a = (a.0, unmarked_moved to ms a.1)

took_all_unmarked : {Node : Type 0} (M : Machine Node) → NeverMarks M → (ms : List (ℕ × Token)) (n : Node) (r : Node × List (ℕ × Token)) → took_all M ms n ≡ Some r → AreUnmarked r.1
unfolding took_all
took_all_unmarked {Node} M never [] n r e = let is : ◌≡◌ {A = Node × List (ℕ × Token)} (n, []) r = cc in subst (λ x. AreUnmarked x.1) is tt
took_all_unmarked {Node} M never (m ∷ ms) n r e =
    let F = bind_some (M.took n m.0 m.1) _ r e in
    let R = bind_some (took_all M ms F.0.0) _ r F.2 in
    let is : ◌≡◌ {A = Node × List (ℕ × Token)} (R.0.0, F.0.1 ++ R.0.1) r = cc in
    subst (λ x. AreUnmarked x.1) is (all_append (λ m. is_marker m.1 ≡ false) F.0.1 R.0.1 (never.took n m.0 m.1 F.0 F.1) (took_all_unmarked M never ms F.0.0 R.0 R.1))

-- An entry takes no Marker and sends none.
pub does_unmarked : {Node : Type 0} (M : Machine Node) → NeverMarks M → (s : Network Node) (e : Entry) (x : Own Node) (r : Own Node × List (ℕ × Token))
    → does M s.wires (length s.nodes) e x ≡ Some r → AreUnmarked (takes s.wires (length s.nodes) e) × AreUnmarked r.1
unfolding does takes
does_unmarked M never s (Run i k) (OfNode n) r e =
    let C = cond_some (nat_lt 0 k && nat_le k MAX_STEPS) (option_map (of_node i) (steps M k n)) r e in
    let Q = map_some (of_node i) (steps M k n) r C.1 in
    (tt, subst (λ y. AreUnmarked y.1) Q.2 (unmarked_shifted (4 * i) Q.0.1 (steps_unmarked never k n Q.0 Q.1)))
does_unmarked M never s (Run i k) (OfHost ports) r e = cc
does_unmarked M never s (Take l t) x r e =
    let R = receives_unmarked M never (length s.nodes) (receiver s.wires l) t x r e in
    ((R.0, tt), R.1)
does_unmarked M never s (HostIn p b) (OfHost ports) r e = (tt, port_unmarked (length s.nodes) p ports (handed_in b) r (handed_unmarked b) e)
does_unmarked M never s (HostIn p b) (OfNode n) r e = cc
does_unmarked M never s (Confirm p upto) (OfHost ports) r e = (tt, port_unmarked (length s.nodes) p ports (confirmed upto) r (confirmed_unmarked upto) e)
does_unmarked M never s (Confirm p upto) (OfNode n) r e = cc
does_unmarked M never s (Turn i links k) (OfNode n) r e =
    let T = turn_step M s.wires (length s.nodes) i links k n r e in (
      unmarked_moved (incoming s.wires (length s.nodes) i) (by_link 0 links) (unmarked_links 0 links),
      subst (λ y. AreUnmarked y.1) T.is (unmarked_shifted (4 * i) (T.taken_all.1 ++ T.run.1)
          (all_append (λ m. is_marker m.1 ≡ false) T.taken_all.1 T.run.1 (took_all_unmarked M never (by_link 0 links) n T.taken_all T.takes_all) (steps_unmarked never k T.taken_all.0 T.run T.runs))),
    )
does_unmarked M never s (Turn i links k) (OfHost ports) r e = cc

-- ## The step without Markers

put-plain : {Node : Type 0} (s : Network Node) (p : ℕ) (x : Own Node) → put (plain_network s) p x ≡ plain_network (put s p x)
unfolding put
put-plain s p (OfNode n) = refl
put-plain s p (OfHost ports) = refl

pub process-plain : {Node : Type 0} (s : Network Node) (e : Entry) → process (plain_network s).wires (length (plain_network s).nodes) e ≡ process s.wires (length s.nodes) e
process-plain s e = process_same s (plain_network s) refl refl e

module _ {Node : Type 0} (M : Machine Node) (never : NeverMarks M) (s : Network Node) (e : Entry) (t : Network Node) where
  pub step_takes_unmarked : (S : Step M s e t) → AreUnmarked (takes s.wires (length s.nodes) e)
  step_takes_unmarked S = (does_unmarked M never s e S.was (S.now, S.sends) S.change).0

  pub step_sends_unmarked : (S : Step M s e t) → AreUnmarked S.sends
  step_sends_unmarked S = (does_unmarked M never s e S.was (S.now, S.sends) S.change).1

  -- An entry leaves as many Markers on each line.
  pub step_markers : HasFourLinks M → (S : Step M s e t) → (l : ℕ) → markers (on_line t.lines l) ≡ markers (on_line s.lines l)
  step_markers four S l =
      ap (λ lines. markers (on_line lines l)) (step_lines M four s e t S)
      ∙ markers-sent (has_wire s.wires) S.out S.sends (step_sends_unmarked S) l
      ∙ markers-taken s.lines (takes s.wires (length s.nodes) e) S.out (step_takes_unmarked S) S.takes_out l

  -- An entry that is possible over lines with Markers is possible over them without Markers, with the effect that it had.
  pub plain_step : next M s e ≡ Some t → next M (plain_network s) e ≡ Some (plain_network t)
  plain_step h = next_from M (plain_network s) e (plain_network t) (record {
    out = map plain S.out;
    takes_out = ap (λ ms. taken (map plain s.lines) ms) (takes_same s (plain_network s) refl refl e) ∙ taken_plain s.lines (takes s.wires (length s.nodes) e) S.out (step_takes_unmarked S) S.takes_out;
    was = S.was;
    own_was = ap (own (plain_network s)) (process-plain s e) ∙ own-plain s (process s.wires (length s.nodes) e) ∙ S.own_was;
    now = S.now;
    sends = S.sends;
    change = S.change;
    makes = ap (λ lines. put (record s { lines = lines }) (process (plain_network s).wires (length (plain_network s).nodes) e) S.now) (sym (sent_plain (has_wire s.wires) S.out S.sends (step_sends_unmarked S)))
        ∙ ap (λ p. put (plain_network (record s { lines = sent (has_wire s.wires) S.out S.sends })) p S.now) (process-plain s e)
        ∙ put-plain (record s { lines = sent (has_wire s.wires) S.out S.sends }) (process s.wires (length s.nodes) e) S.now
        ∙ ap plain_network S.makes;
  })
    where
      S : Step M s e t
      S = step_of M s e t h
