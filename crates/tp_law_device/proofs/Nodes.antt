-- A network's nodes stay of bytes, and as long, whatever entries follow.
use Rattle.std.proofs.Common.{◌≡◌, ℕ, zero, suc, ◌+◌, ◌/◌, List, [], ◌∷◌, ◌++◌, length, set, refl, sym, ap, subst, ◌∙◌, Option, Some, None, slice_get}
use Rattle.std.specs.Prelude.{nat_lt, nat_le, ◌&&◌}
use Rattle.tp_law_device.proofs.Lower.{option_map, AllByRecursion, Token, Data, Ack, Marker, WireEnd, Link, AtPort, Received, Nothing, JustData, JustAck, DataThenAck, AckThenData, Entry, Take, HostIn, Confirm, Turn, MAX_STEPS, PAGE_BYTES, NodeState, t414, took, page_count, steps, Port, Network, Own, OfNode, OfHost, own, put, receiver, has_wire, sent, by_link, took_all, process, of_node, of_port, receives, port_took, handed_in, confirmed, does, next, TakesByte, HasByte, CarriesByte, IsNodeOfBytes, all_at, all_set, node_steps, node_took, length-node_steps, length-node_took, own_node, own-lines, port_step, turn_step, bind_some, map_some, cond_some}
use Rattle.tp_model.specs.declared.entry.Entry.TheVariants.{Run}
use Rattle.tp_law_network.proofs.Local.{step_of}
use Rattle.tp_law_device.proofs.SpeltCuts.{pages_of}

-- what a take carries
carried : (line : ℕ) (token : Token) → HasByte (Take line token) → CarriesByte token
carried line (Data byte) low = low
carried line Ack low = tt
carried line Marker low = tt

-- and what a turn's tokens carry
abbrev CarryBytes : List (ℕ × Token) → Type 0
CarryBytes = AllByRecursion (λ m. CarriesByte m.1)

carried_links : (k : ℕ) (takes : List Received) → AllByRecursion TakesByte takes → CarryBytes (by_link k takes)
carried_links k [] low = tt
carried_links k (Nothing ∷ takes) low = carried_links (k + 1) takes low.1
carried_links k (JustData byte ∷ takes) low = (low.0, carried_links (k + 1) takes low.1)
carried_links k (JustAck ∷ takes) low = (tt, carried_links (k + 1) takes low.1)
carried_links k (DataThenAck byte ∷ takes) low = (low.0, (tt, carried_links (k + 1) takes low.1))
carried_links k (AckThenData byte ∷ takes) low = (tt, (low.0, carried_links (k + 1) takes low.1))

-- ## The node whose entry it is

-- a node after another: it is of bytes, and as long
record NodeStays (was now : NodeState) : Type 0 where
  bytes : IsNodeOfBytes now
  long : length now.memory ≡ length was.memory

took_all_stays : (ms : List (ℕ × Token)) (n : NodeState) (r : NodeState × List (ℕ × Token)) → IsNodeOfBytes n → CarryBytes ms → took_all t414 ms n ≡ Some r → NodeStays n r.0
unfolding took_all
took_all_stays [] n r node low e =
    let is : ◌≡◌ {A = NodeState × List (ℕ × Token)} (n, []) r = cc in
    subst (λ x. NodeStays n x.0) is (record { bytes = node; long = refl })
took_all_stays (m ∷ ms) n r node low e =
    let F = bind_some (took n m.0 m.1) _ r e in
    let R = bind_some (took_all t414 ms F.0.0) _ r F.2 in
    let is : ◌≡◌ {A = NodeState × List (ℕ × Token)} (R.0.0, F.0.1 ++ R.0.1) r = cc in
    let rest = took_all_stays ms F.0.0 R.0 (node_took n m.0 m.1 F.0 node low.0 F.1).0 low.1 R.1 in
    subst (λ x. NodeStays n x.0) is (record { bytes = rest.bytes; long = rest.long ∙ length-node_took n m.0 m.1 F.0 node low.0 F.1 })

abbrev StaysNode : Own NodeState → Own NodeState → Type 0
StaysNode (OfNode was) (OfNode now) = NodeStays was now
StaysNode (OfHost ports) (OfNode now) = ⊥
StaysNode was (OfHost ports) = Unit {0}

record OwnStays (was now : Own NodeState) : Type 0 where
  is : StaysNode was now

-- a process that is a node is one of bytes
abbrev OfBytes : Own NodeState → Type 0
OfBytes was = (n : NodeState) → was ≡ OfNode n → IsNodeOfBytes n

node_stays : (i : ℕ) (n : NodeState) (given : Option (NodeState × List (ℕ × Token))) (r : Own NodeState × List (ℕ × Token))
    → ((x : NodeState × List (ℕ × Token)) → given ≡ Some x → NodeStays n x.0) → option_map (of_node i) given ≡ Some r → OwnStays (OfNode n) r.0
node_stays i n given r h e =
    let Q = map_some (of_node i) given r e in
    subst (λ y. OwnStays (OfNode n) y.0) Q.2 (record { is = h Q.0 Q.1 })

host_stays : (N p : ℕ) (ports : List Port) (change : Port → Option (Port × List Token)) (r : Own NodeState × List (ℕ × Token)) → of_port N p ports change ≡ Some r → OwnStays (OfHost ports) r.0
host_stays N p ports change r e = let P = port_step N p ports change r e in subst (λ y. OwnStays (OfHost ports) y.0) P.is (record { is = tt })

receives_stays : (N : ℕ) (end : Option WireEnd) (token : Token) (was : Own NodeState) (r : Own NodeState × List (ℕ × Token)) → OfBytes was → CarriesByte token → receives t414 N end token was ≡ Some r
    → OwnStays was r.0
unfolding receives
receives_stays N (Some (Link i k)) token (OfNode n) r node low e =
    node_stays i n (took n k token) r (λ x h. record { bytes = (node_took n k token x (node n refl) low h).0; long = length-node_took n k token x (node n refl) low h }) e
receives_stays N (Some (AtPort p)) token (OfHost ports) r node low e = host_stays N p ports (port_took token) r e
receives_stays N (Some (Link i k)) token (OfHost ports) r node low e = cc
receives_stays N (Some (AtPort p)) token (OfNode n) r node low e = cc
receives_stays N None token (OfNode n) r node low e = cc
receives_stays N None token (OfHost ports) r node low e = cc

does_stays : (s : Network NodeState) (e : Entry) (was : Own NodeState) (r : Own NodeState × List (ℕ × Token)) → OfBytes was → HasByte e → does t414 s.wires (length s.nodes) e was ≡ Some r → OwnStays was r.0
unfolding does
does_stays s (Run i k) (OfNode n) r node low e =
    let C = cond_some (nat_lt 0 k && nat_le k MAX_STEPS) (option_map (of_node i) (steps t414 k n)) r e in
    node_stays i n (steps t414 k n) r (λ x h. record { bytes = (node_steps k n x (node n refl) h).0; long = length-node_steps k n x (node n refl) h }) C.1
does_stays s (Run i k) (OfHost ports) r node low e = cc
does_stays s (Take l t) was r node low e = receives_stays (length s.nodes) (receiver s.wires l) t was r node (carried l t low) e
does_stays s (HostIn p b) (OfHost ports) r node low e = host_stays (length s.nodes) p ports (handed_in b) r e
does_stays s (HostIn p b) (OfNode n) r node low e = cc
does_stays s (Confirm p upto) (OfHost ports) r node low e = host_stays (length s.nodes) p ports (confirmed upto) r e
does_stays s (Confirm p upto) (OfNode n) r node low e = cc
does_stays s (Turn i links k) (OfNode n) r node low e =
    let T = turn_step t414 s.wires (length s.nodes) i links k n r e in
    let taken = took_all_stays (by_link 0 links) n T.taken_all (node n refl) (carried_links 0 links low.0) T.takes_all in
    subst (λ y. OwnStays (OfNode n) y.0) T.is (record {
      is = record { bytes = (node_steps k T.taken_all.0 T.run taken.bytes T.runs).0; long = length-node_steps k T.taken_all.0 T.run taken.bytes T.runs ∙ taken.long };
    })
does_stays s (Turn i links k) (OfHost ports) r node low e = cc

-- ## The network

-- nodes after others: all of bytes, each as long
pub record NodesStay (was now : List NodeState) : Type 0 where
  pub bytes : AllByRecursion IsNodeOfBytes now
  pub pages : pages_of now ≡ pages_of was

pages_set : (nodes : List NodeState) (i : ℕ) (was now : NodeState) → slice_get nodes i ≡ Some was → length now.memory ≡ length was.memory → pages_of (set nodes i now) ≡ pages_of nodes
pages_set [] i was now at same = refl
pages_set (n ∷ ns) zero was now at same =
    let here : n ≡ was = cc in
    let long : length now.memory ≡ length n.memory = same ∙ ap (λ (m : NodeState). length m.memory) (sym here) in
    ap (λ k. (k / PAGE_BYTES) ∷ pages_of ns) long
pages_set (n ∷ ns) (suc i) was now at same = ap (λ ps. page_count n.memory ∷ ps) (pages_set ns i was now at same)

put_stays : (s : Network NodeState) (p : ℕ) (was now : Own NodeState) → AllByRecursion IsNodeOfBytes s.nodes → own s p ≡ Some was → StaysNode was now → NodesStay s.nodes (put s p now).nodes
unfolding put
put_stays s p (OfNode was) (OfNode now) all at stays = record {
  bytes = all_set IsNodeOfBytes s.nodes p now all stays.bytes;
  pages = pages_set s.nodes p was now (own_node s p was at).1 stays.long;
}
put_stays s p (OfHost was) (OfNode now) all at stays = absurd stays
put_stays s p (OfNode was) (OfHost now) all at stays = record { bytes = all; pages = refl }
put_stays s p (OfHost was) (OfHost now) all at stays = record { bytes = all; pages = refl }

pub nodes_next : (s : Network NodeState) (e : Entry) (u : Network NodeState) → AllByRecursion IsNodeOfBytes s.nodes → HasByte e → next t414 s e ≡ Some u → NodesStay s.nodes u.nodes
nodes_next s e u all low h =
    let S = step_of t414 s e u h in
    let lines = sent (has_wire s.wires) S.out S.sends in
    let p = process s.wires (length s.nodes) e in
    let bytes : OfBytes S.was = λ n is. all_at IsNodeOfBytes s.nodes p n all (own_node s p n (S.own_was ∙ ap Some is)).1 in
    let stays = does_stays s e S.was (S.now, S.sends) bytes low S.change in
    subst (λ (x : Network NodeState). NodesStay s.nodes x.nodes) S.makes (put_stays (record s { lines = lines }) p S.was S.now all (own-lines s lines p ∙ S.own_was) stays.is)
