-- One entry takes at most one off what ports can still count.
use Rattle.std.proofs.Common.{◌≡◌, ℕ, suc, zero, ◌+◌, ◌-◌, ◌^◌, ◌<◌, ◌≤◌, Bool, true, false, cond, inl, inr, List, [], ◌∷◌, ◌++◌, length, set, drop, refl, sym, ap, subst, ◌∙◌, arith, Option, Some, None, slice_get, min, nat_lt, nat_le}
use Rattle.std.specs.Prelude.{◌&&◌, IsTrue, MatchBool}
use Rattle.tp_replay.proofs.Lower.{option_map, cases_Bool, cases_eq, cases_lt, false≢true, Token, Data, Ack, Marker, WireEnd, Link, AtPort, Entry, Run, Take, HostIn, Confirm, Turn, MAX_STEPS, MAX_HELD, NodeState, steps, Port, Network, Own, OfNode, OfHost, own, put, receiver, has_wire, taken, sent, process, takes, of_node, of_port, receives, in_flight, acked, first_only, port_took, handed_in, confirmed, does, acts, t414, own_host, port_step, turn_step, bind_some, map_some, cond_some, slice_get-set_same, slice_get-set_other, Piece, from_piece, next_in, act_of, AreCounted}
use Rattle.tp_replay.specs.Blocked.{IsBlocked}
use Rattle.tp_replay.specs.Counts.{PortsCanCount, most_entries, room_of}

-- each port can count `n` more
abbrev pub CanCountMore : ℕ → List Port → Type 0
CanCountMore n ports = (p : ℕ) (port : Port) → slice_get ports p ≡ Some port → port.in_base + n < 2 ^ 64

-- ## The least that ports can count

pub room_each : (ports : List Port) (p : ℕ) (port : Port) → slice_get ports p ≡ Some port → room_of ports ≤ 2 ^ 64 - 1 - port.in_base
unfolding room_of
room_each [] p port at = cc
room_each (x ∷ ports) zero port at =
    let same : x ≡ port = cc in
    subst (λ (y : Port). min (2 ^ 64 - 1 - x.in_base) (room_of ports) ≤ 2 ^ 64 - 1 - y.in_base) same (omega arith)
room_each (x ∷ ports) (suc p) port at = let rest = room_each ports p port at in omega (arith, rest)

pub room_from : (n : ℕ) (ports : List Port) → n < 2 ^ 64 → CanCountMore n ports → n ≤ room_of ports
unfolding room_of
room_from n [] small all = omega (arith, small)
room_from n (x ∷ ports) small all =
    let first = all 0 x refl in
    let rest = room_from n ports small (λ p port at. all (suc p) port at) in
    omega (arith, first, rest)

pub room_most : (ports : List Port) → room_of ports < 2 ^ 64
unfolding room_of
room_most [] = omega arith
room_most (x ∷ ports) = let rest = room_most ports in omega (arith, rest)

pub counts_more : (ports : List Port) (n : ℕ) → suc n ≤ room_of ports → CanCountMore (suc n) ports
counts_more ports n some p port at = let least = room_each ports p port at in omega (arith, least, some)

-- if there is room, each port can count one more
pub can_count : (s : Network NodeState) → 0 < room_of s.ports → PortsCanCount s
can_count s some p port at = let least = room_each s.ports p port at in omega (arith, least, some)

-- Ports that have counted no more than a number can still count up to what is left of it.
pub counted_room : (n : ℕ) (ports : List Port) → AreCounted n ports → most_entries - n ≤ room_of ports
counted_room n ports counted = elim (cases_lt n most_entries) [
  | inl below ↦ room_from (most_entries - n) ports (omega arith) (λ p port at. let few = (counted p port at).inputs in omega (arith, few, below))
  | inr past ↦ (let none : most_entries - n ≡ 0 = omega (arith, past) in omega (arith, none))
]

-- ## One change of a port

-- what a change leaves counts at most one more
abbrev CountsOne : Port → Port × List Token → Type 0
CountsOne port after = after.0.in_base ≤ port.in_base + 1

leaves_it : (port : Port) (x after : Port × List Token) → Some x ≡ Some after → CountsOne port x → CountsOne port after
leaves_it port x after e one = let same : x ≡ after = cc in subst (CountsOne port) same one

took_one : (token : Token) (port : Port) (after : Port × List Token) → port_took token port ≡ Some after → CountsOne port after
took_one (Data x) port after e =
    let C = cond_some (nat_lt (length port.outputs) MAX_HELD) (Some (record port { outputs = port.outputs ++ x ∷ [] }, Ack ∷ [])) after e in
    leaves_it port (record port { outputs = port.outputs ++ x ∷ [] }, Ack ∷ []) after C.1 (omega arith)
took_one Ack port after e = acked_one port.pending e
  where
    acked_one : (pending : List ℕ) → acked pending port ≡ Some after → CountsOne port after
    acked_one [] e = cc
    acked_one (x ∷ xs) e = leaves_it port (record port { pending = xs; in_base = port.in_base + 1 }, in_flight xs) after e (omega arith)
took_one Marker port after e = cc

handed_one : (byte : ℕ) (port : Port) (after : Port × List Token) → handed_in byte port ≡ Some after → CountsOne port after
handed_one byte port after e =
    let C = cond_some (nat_lt (length port.pending) MAX_HELD) (Some (record port { pending = port.pending ++ byte ∷ [] }, first_only port.pending byte)) after e in
    leaves_it port (record port { pending = port.pending ++ byte ∷ [] }, first_only port.pending byte) after C.1 (omega arith)

confirmed_one : (upto : ℕ) (port : Port) (after : Port × List Token) → confirmed upto port ≡ Some after → CountsOne port after
confirmed_one upto port after e =
    let C = cond_some (nat_lt port.out_base upto && nat_le upto (port.out_base + length port.outputs)) (Some (record port { outputs = drop (upto - port.out_base) port.outputs; out_base = upto }, [])) after e in
    leaves_it port (record port { outputs = drop (upto - port.out_base) port.outputs; out_base = upto }, []) after C.1 (omega arith)

-- ## One entry

-- a process's ports, if it is the host
abbrev InHost : ℕ → Own NodeState → Type 0
InHost n (OfNode node) = Unit {0}
InHost n (OfHost ports) = CanCountMore n ports

record OfProcess (n : ℕ) (state : Own NodeState) : Type 0 where
  is : InHost n state

less : (n : ℕ) (ports : List Port) → CanCountMore (suc n) ports → CanCountMore n ports
less n ports all p port at = let one = all p port at in omega (arith, one)

node_counts : (n i : ℕ) (given : Option (NodeState × List (ℕ × Token))) (r : Own NodeState × List (ℕ × Token)) → option_map (of_node i) given ≡ Some r → OfProcess n r.0
node_counts n i given r e = let Q = map_some (of_node i) given r e in subst (λ y. OfProcess n y.0) Q.2 (record { is = tt })

host_counts : (n N p : ℕ) (ports : List Port) (change : Port → Option (Port × List Token)) (r : Own NodeState × List (ℕ × Token)) → CanCountMore (suc n) ports
    → ((port : Port) (after : Port × List Token) → change port ≡ Some after → CountsOne port after) → of_port N p ports change ≡ Some r → OfProcess n r.0
host_counts n N p ports change r all each e =
    let S = port_step N p ports change r e in
    subst (λ y. OfProcess n y.0) S.is (record {
      is = λ q port at. elim (cases_eq q p) [
        | inl same ↦
            let there = slice_get-set_same ports p S.changed.0 S.port S.at in
            let at_p : slice_get (set ports p S.changed.0) p ≡ Some port = ap (slice_get (set ports p S.changed.0)) (sym same) ∙ at in
            let is : S.changed.0 ≡ port = cc (there, at_p) in
            let before = all p S.port S.at in
            let one = each S.port S.changed S.change_is in
            subst (λ (y : Port). y.in_base + n < 2 ^ 64) is (omega (arith, before, one))
        | inr other ↦ less n ports all q port (sym (slice_get-set_other ports p q S.changed.0 other) ∙ at)
      ];
    })

receives_counts : (n N : ℕ) (end : Option WireEnd) (token : Token) (was : Own NodeState) (r : Own NodeState × List (ℕ × Token)) → OfProcess (suc n) was → receives t414 N end token was ≡ Some r → OfProcess n r.0
unfolding receives
receives_counts n N (Some (Link i k)) token (OfNode node) r holds e = node_counts n i (t414.took node k token) r e
receives_counts n N (Some (AtPort p)) token (OfHost ports) r holds e = host_counts n N p ports (port_took token) r holds.is (took_one token) e
receives_counts n N (Some (Link i k)) token (OfHost ports) r holds e = cc
receives_counts n N (Some (AtPort p)) token (OfNode node) r holds e = cc
receives_counts n N None token was r holds e = cc

does_counts : (n : ℕ) (s : Network NodeState) (e : Entry) (was : Own NodeState) (r : Own NodeState × List (ℕ × Token)) → OfProcess (suc n) was → does t414 s.wires (length s.nodes) e was ≡ Some r → OfProcess n r.0
unfolding does
does_counts n s (Run i k) (OfNode node) r holds e =
    let C = cond_some (nat_lt 0 k && nat_le k MAX_STEPS) (option_map (of_node i) (steps t414 k node)) r e in
    node_counts n i (steps t414 k node) r C.1
does_counts n s (Run i k) (OfHost ports) r holds e = cc
does_counts n s (Take l t) was r holds e = receives_counts n (length s.nodes) (receiver s.wires l) t was r holds e
does_counts n s (HostIn p b) (OfHost ports) r holds e = host_counts n (length s.nodes) p ports (handed_in b) r holds.is (handed_one b) e
does_counts n s (HostIn p b) (OfNode node) r holds e = cc
does_counts n s (Confirm p upto) (OfHost ports) r holds e = host_counts n (length s.nodes) p ports (confirmed upto) r holds.is (confirmed_one upto) e
does_counts n s (Confirm p upto) (OfNode node) r holds e = cc
does_counts n s (Turn i links k) (OfNode node) r holds e =
    let T = turn_step t414 s.wires (length s.nodes) i links k node r e in
    subst (λ y. OfProcess n y.0) T.is (record { is = tt })
does_counts n s (Turn i links k) (OfHost ports) r holds e = cc

own_counts : (n : ℕ) (s : Network NodeState) (p : ℕ) (was : Own NodeState) → CanCountMore n s.ports → own s p ≡ Some was → OfProcess n was
own_counts n s p (OfNode node) all e = record { is = tt }
own_counts n s p (OfHost ports) all e = record { is = subst (CanCountMore n) (own_host s p ports e).1 all }

put_counts : (n : ℕ) (s : Network NodeState) (p : ℕ) (now : Own NodeState) → CanCountMore n s.ports → OfProcess n now → CanCountMore n (put s p now).ports
unfolding put
put_counts n s p (OfNode node) all holds = all
put_counts n s p (OfHost ports) all holds = holds.is

acts_counts : (n : ℕ) (s : Network NodeState) (lines : List (List Token)) (e : Entry) (t : Network NodeState) → CanCountMore (suc n) s.ports → acts t414 s lines e ≡ Some t → CanCountMore n t.ports
acts_counts n s lines e t all h =
    let A = act_of t414 s lines e t h in
    subst (λ (u : Network NodeState). CanCountMore n u.ports) A.makes
    (put_counts n (record s { lines = sent (has_wire s.wires) lines A.sends }) (process s.wires (length s.nodes) e) A.now (less n s.ports all)
    (does_counts n s e A.was (A.now, A.sends) (own_counts (suc n) s (process s.wires (length s.nodes) e) A.was all A.own_was) A.change))

next_in_counts : (n : ℕ) (has : Piece) (s : Network NodeState) (e : Entry) (t : Network NodeState) → CanCountMore (suc n) s.ports → next_in t414 has s e ≡ Some t → CanCountMore n t.ports
unfolding next_in
next_in_counts n has s e t all h =
    let T = bind_some (taken s.lines (from_piece has (length s.nodes) (takes s.wires (length s.nodes) e))) (λ lines. cond (has (process s.wires (length s.nodes) e)) (acts t414 s lines e) (Some (record s { lines = lines }))) t h in
    elim (cases_Bool (has (process s.wires (length s.nodes) e))) [
      | inl y ↦ acts_counts n s T.0 e t all (sym (ap (λ b. cond b (acts t414 s T.0 e) (Some (record s { lines = T.0 }))) y) ∙ T.2)
      | inr other ↦
          let is : Some (record s { lines = T.0 }) ≡ Some t = sym (ap (λ b. cond b (acts t414 s T.0 e) (Some (record s { lines = T.0 }))) other) ∙ T.2 in
          let same : record s { lines = T.0 } ≡ t = cc in
          subst (λ (u : Network NodeState). CanCountMore n u.ports) same (less n s.ports all)
    ]

-- After an entry the ports can count at most one less.
pub room_kept : (has : Piece) (s : Network NodeState) (e : Entry) (t : Network NodeState) → next_in t414 has s e ≡ Some t → room_of s.ports ≤ room_of t.ports + 1
room_kept has s e t h = go (room_of s.ports) (room_most s.ports) (counts_more s.ports)
  where
    go : (room : ℕ) → room < 2 ^ 64 → ((n : ℕ) → suc n ≤ room → CanCountMore (suc n) s.ports) → room ≤ room_of t.ports + 1
    go zero small more = omega arith
    go (suc n) small more = let left = room_from n t.ports (omega (arith, small)) (next_in_counts n has s e t (more n (omega arith)) h) in omega (arith, left)

-- the same of an entry that was done
pub room_true : (has : Piece) (s : Network NodeState) (e : Entry) (t : Network NodeState) (could : Bool) → MatchBool could (next_in t414 has s e ≡ Some t) (IsBlocked has s e) → IsTrue could → room_of s.ports ≤ room_of t.ports + 1
room_true has s e t true goes h = room_kept has s e t goes
room_true has s e t false goes h = absurd (false≢true h)
