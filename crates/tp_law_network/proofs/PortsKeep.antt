-- If each change of a port keeps a property, so does each entry for all ports. The property may grow with the number of entries.
use Rattle.std.proofs.Common.{◌≡◌, ℕ, ◌+◌, inl, inr, List, length, set, sym, ap, subst, ◌∙◌, Option, Some, None, slice_get}
use Rattle.std.specs.Prelude.{nat_lt, nat_le, ◌&&◌}
use Rattle.tp_law_network.proofs.Lower.{option_map, cases_eq, Token, WireEnd, Link, AtPort, Entry, Run, Take, HostIn, Confirm, Turn, MAX_STEPS, Machine, steps, Port, Network, Own, OfNode, OfHost, own, put, receiver, has_wire, sent, process, of_node, of_port, receives, port_took, handed_in, confirmed, does, next}
use Rattle.tp_law_network.proofs.Local.{step_of, own_host, port_step, turn_step}
use Rattle.tp_law_network.proofs.Partial.{map_some, cond_some, slice_get-set_same, slice_get-set_other}

-- Each change of a port keeps what holds of it after `n` entries, for one more.
pub record EachKeeps (Holds : ℕ → Port → Type 0) : Type 0 where
  pub more : (n : ℕ) (port : Port) → Holds n port → Holds (n + 1) port
  pub took : (n : ℕ) (token : Token) (port : Port) (after : Port × List Token) → Holds n port → port_took token port ≡ Some after → Holds (n + 1) after.0
  pub handed : (n byte : ℕ) (port : Port) (after : Port × List Token) → Holds n port → handed_in byte port ≡ Some after → Holds (n + 1) after.0
  pub confirmed_so : (n upto : ℕ) (port : Port) (after : Port × List Token) → Holds n port → confirmed upto port ≡ Some after → Holds (n + 1) after.0

-- What holds of each port.
abbrev pub AllPorts : (ℕ → Port → Type 0) → ℕ → List Port → Type 0
AllPorts Holds n ports = (p : ℕ) (port : Port) → slice_get ports p ≡ Some port → Holds n port

module _ {Node : Type 0} (M : Machine Node) (Holds : ℕ → Port → Type 0) (K : EachKeeps Holds) where
  -- a process's ports, if it is the host
  abbrev InHost : ℕ → Own Node → Type 0
  InHost n (OfNode node) = Unit {0}
  InHost n (OfHost ports) = AllPorts Holds n ports

  record OfProcess (n : ℕ) (state : Own Node) : Type 0 where
    is : InHost n state

  all_more : (n : ℕ) (ports : List Port) → AllPorts Holds n ports → AllPorts Holds (n + 1) ports
  all_more n ports all p port at = K.more n port (all p port at)

  node_keeps : (n i : ℕ) (given : Option (Node × List (ℕ × Token))) (r : Own Node × List (ℕ × Token)) → option_map (of_node i) given ≡ Some r → OfProcess n r.0
  node_keeps n i given r e = let Q = map_some (of_node i) given r e in subst (λ y. OfProcess n y.0) Q.2 (record { is = tt })

  host_keeps : (n N p : ℕ) (ports : List Port) (change : Port → Option (Port × List Token)) (r : Own Node × List (ℕ × Token)) → AllPorts Holds n ports
      → ((port : Port) (after : Port × List Token) → Holds n port → change port ≡ Some after → Holds (n + 1) after.0)
      → of_port N p ports change ≡ Some r → OfProcess (n + 1) r.0
  host_keeps n N p ports change r all each e =
      let S = port_step N p ports change r e in
      subst (λ y. OfProcess (n + 1) y.0) S.is (record {
        is = λ q port at. elim (cases_eq q p) [
          | inl same ↦
              let there = slice_get-set_same ports p S.changed.0 S.port S.at in
              let at_p : slice_get (set ports p S.changed.0) p ≡ Some port = ap (slice_get (set ports p S.changed.0)) (sym same) ∙ at in
              let is : S.changed.0 ≡ port = cc (there, at_p) in
              subst (Holds (n + 1)) is (each S.port S.changed (all p S.port S.at) S.change_is)
          | inr other ↦ all_more n ports all q port (sym (slice_get-set_other ports p q S.changed.0 other) ∙ at)
        ];
      })

  receives_keeps : (n N : ℕ) (end : Option WireEnd) (token : Token) (was : Own Node) (r : Own Node × List (ℕ × Token)) → OfProcess n was → receives M N end token was ≡ Some r → OfProcess (n + 1) r.0
  unfolding receives
  receives_keeps n N (Some (Link i k)) token (OfNode node) r holds e = node_keeps (n + 1) i (M.took node k token) r e
  receives_keeps n N (Some (AtPort p)) token (OfHost ports) r holds e = host_keeps n N p ports (port_took token) r holds.is (K.took n token) e
  receives_keeps n N (Some (Link i k)) token (OfHost ports) r holds e = cc
  receives_keeps n N (Some (AtPort p)) token (OfNode node) r holds e = cc
  receives_keeps n N None token was r holds e = cc

  does_keeps : (n : ℕ) (s : Network Node) (e : Entry) (was : Own Node) (r : Own Node × List (ℕ × Token)) → OfProcess n was → does M s.wires (length s.nodes) e was ≡ Some r → OfProcess (n + 1) r.0
  unfolding does
  does_keeps n s (Run i k) (OfNode node) r holds e =
      let C = cond_some (nat_lt 0 k && nat_le k MAX_STEPS) (option_map (of_node i) (steps M k node)) r e in
      node_keeps (n + 1) i (steps M k node) r C.1
  does_keeps n s (Run i k) (OfHost ports) r holds e = cc
  does_keeps n s (Take l t) was r holds e = receives_keeps n (length s.nodes) (receiver s.wires l) t was r holds e
  does_keeps n s (HostIn p b) (OfHost ports) r holds e = host_keeps n (length s.nodes) p ports (handed_in b) r holds.is (K.handed n b) e
  does_keeps n s (HostIn p b) (OfNode node) r holds e = cc
  does_keeps n s (Confirm p upto) (OfHost ports) r holds e = host_keeps n (length s.nodes) p ports (confirmed upto) r holds.is (K.confirmed_so n upto) e
  does_keeps n s (Confirm p upto) (OfNode node) r holds e = cc
  does_keeps n s (Turn i links k) (OfNode node) r holds e =
      let T = turn_step M s.wires (length s.nodes) i links k node r e in subst (λ y. OfProcess (n + 1) y.0) T.is (record { is = tt })
  does_keeps n s (Turn i links k) (OfHost ports) r holds e = cc

  own_holds : (n : ℕ) (s : Network Node) (p : ℕ) (was : Own Node) → AllPorts Holds n s.ports → own s p ≡ Some was → OfProcess n was
  own_holds n s p (OfNode node) all e = record { is = tt }
  own_holds n s p (OfHost ports) all e = record { is = subst (AllPorts Holds n) (own_host s p ports e).1 all }

  put_holds : (n : ℕ) (s : Network Node) (p : ℕ) (now : Own Node) → AllPorts Holds n s.ports → OfProcess n now → AllPorts Holds n (put s p now).ports
  unfolding put
  put_holds n s p (OfNode node) all holds = all
  put_holds n s p (OfHost ports) all holds = holds.is

  -- An entry keeps it of all ports, for one entry more.
  pub ports_keep : (n : ℕ) (s : Network Node) (e : Entry) (t : Network Node) → AllPorts Holds n s.ports → next M s e ≡ Some t → AllPorts Holds (n + 1) t.ports
  ports_keep n s e t all h =
      let S = step_of M s e t h in
      subst (λ u. AllPorts Holds (n + 1) u.ports) S.makes
      (put_holds (n + 1) (record s { lines = sent (has_wire s.wires) S.out S.sends }) (process s.wires (length s.nodes) e) S.now (all_more n s.ports all)
      (does_keeps n s e S.was (S.now, S.sends) (own_holds n s (process s.wires (length s.nodes) e) S.was all S.own_was) S.change))
