-- What entries change at a port.
use Rattle.std.proofs.Common.{◌≡◌, ℕ, Bool, true, false, cond, inl, inr, List, [], ◌∷◌, ◌++◌, length, set, flat_map, refl, sym, ap, subst, ◌∙◌, Option, Some, None, ne_eqb, eq-eqb}
use Rattle.std.specs.Prelude.{slice_get, ◌==◌, ◌&&◌, nat_lt, nat_le}
use Rattle.tp_law_processes.proofs.Lower.{option_map, cases_eq, Token, WireEnd, Link, AtPort, Entry, Run, Take, HostIn, Confirm, Turn, MAX_STEPS, Machine, steps, Network, Port, Own, OfNode, OfHost, put, receiver, has_wire, sent, HasFourLinks, process, port_took, handed_in, confirmed, of_node, of_port, receives, does, next, after, is_at, tested, slice_get-set_same, slice_get-set_other, step_of, step_shape, own_host, port_step, turn_step, first_possible}

-- ## One port

-- how a port changes and what it sends, if it can
abbrev pub Change : Type 0
Change = Port → Option (Port × List Token)

-- a change that is made if a test holds
abbrev pub only : Bool → Change → Option Change
only test change = cond test (Some change) None

-- the change of port p by an entry, if it makes one there
abbrev pub change_at : List (Option WireEnd) → ℕ → Entry → Option Change
change_at wires p (Run i k) = None
change_at wires p (Take line token) = only (is_at p (receiver wires line)) (port_took token)
change_at wires p (HostIn q x) = only (q == p) (handed_in x)
change_at wires p (Confirm q upto) = only (q == p) (confirmed upto)
change_at wires p (Turn i links k) = None

-- a port after a change, or as it was if there is none
abbrev pub Becomes : Option Change → Port → Port → Type 0
Becomes None before later = before ≡ later
Becomes (Some change) before later = (sends : List Token) × (change before ≡ Some (later, sends))

-- ## An entry

abbrev ports_after : {Node : Type 0} → Network Node → Own Node → List Port
ports_after s (OfNode n) = s.ports
ports_after s (OfHost ports) = ports

put_ports : {Node : Type 0} (s : Network Node) (q : ℕ) (now : Own Node) → (put s q now).ports ≡ ports_after s now
unfolding put
put_ports s q (OfNode n) = refl
put_ports s q (OfHost ports) = refl

module _ {Node : Type 0} (s : Network Node) (p : ℕ) (port : Port) (at : slice_get s.ports p ≡ Some port) where
  -- what has become of the port
  record Changed (change : Option Change) (ports : List Port) : Type 0 where
    later : Port
    there : slice_get ports p ≡ Some later
    becomes : Becomes change port later

  unchanged : Changed None s.ports
  unchanged = record { later = port; there = at; becomes = refl }

  -- a change of port q
  port_changed : (N q : ℕ) (change : Change) (r : Own Node × List (ℕ × Token)) → of_port N q s.ports change ≡ Some r → Changed (only (q == p) change) (ports_after s r.0)
  port_changed N q change r e =
      let P = port_step N q s.ports change r e in
      subst (λ x. Changed (only (q == p) change) (ports_after s x.0)) P.is (elim (cases_eq q p) [
        | inl same ↦
            let both : Some P.port ≡ Some port = sym P.at ∙ ap (slice_get s.ports) same ∙ at in
            let is : P.port ≡ port = cc in
            subst (λ b. Changed (only b change) (set s.ports q P.changed.0)) (sym (eq-eqb q p same))
            (record {
              later = P.changed.0;
              there = ap (slice_get (set s.ports q P.changed.0)) (sym same) ∙ slice_get-set_same s.ports q P.changed.0 P.port P.at;
              becomes = (P.changed.1, ap change (sym is) ∙ P.change_is);
            })
        | inr other ↦
            subst (λ b. Changed (only b change) (set s.ports q P.changed.0)) (sym (ne_eqb q p other))
            (record { later = port; there = slice_get-set_other s.ports q p P.changed.0 (λ h. other (sym h)) ∙ at; becomes = refl })
      ])

  -- a change of a node
  node_changed : (i : ℕ) (found : Option (Node × List (ℕ × Token))) (r : Own Node × List (ℕ × Token)) → option_map (of_node i) found ≡ Some r → Changed None (ports_after s r.0)
  node_changed i None r e = cc
  node_changed i (Some after) r e =
      let same : of_node i after ≡ r = cc in
      subst (λ x. Changed None (ports_after s x.0)) same unchanged

  module _ (M : Machine Node) (N : ℕ) where
    -- a token that comes in at an end
    came_changed : (end : Option WireEnd) (token : Token) (was : Own Node) (r : Own Node × List (ℕ × Token)) → ((ports : List Port) → was ≡ OfHost ports → s.ports ≡ ports)
        → receives M N end token was ≡ Some r → Changed (only (is_at p end) (port_took token)) (ports_after s r.0)
    unfolding receives
    came_changed None token was r host e = cc
    came_changed (Some (Link i k)) token (OfHost ports) r host e = cc
    came_changed (Some (Link i k)) token (OfNode node) r host e = node_changed i (M.took node k token) r e
    came_changed (Some (AtPort q)) token (OfNode node) r host e = cc
    came_changed (Some (AtPort q)) token (OfHost ports) r host e = port_changed N q (port_took token) r (ap (λ ps. of_port N q ps (port_took token)) (host ports refl) ∙ e)

    does_changed : (e : Entry) (was : Own Node) (r : Own Node × List (ℕ × Token)) → ((ports : List Port) → was ≡ OfHost ports → s.ports ≡ ports)
        → does M s.wires N e was ≡ Some r → Changed (change_at s.wires p e) (ports_after s r.0)
    unfolding does
    does_changed (Run i k) (OfHost ports) r host e = cc
    does_changed (Run i k) (OfNode node) r host e =
        node_changed i (steps M k node) r (tested (nat_lt 0 k && nat_le k MAX_STEPS) (option_map (of_node i) (steps M k node)) r e).1
    does_changed (Take line token) was r host e = came_changed (receiver s.wires line) token was r host e
    does_changed (Turn i links k) (OfHost ports) r host e = cc
    does_changed (Turn i links k) (OfNode node) r host e =
        let T = turn_step M s.wires N i links k node r e in subst (λ x. Changed None (ports_after s x.0)) T.is unchanged
    does_changed (HostIn q x) (OfNode node) r host e = cc
    does_changed (HostIn q x) (OfHost ports) r host e = port_changed N q (handed_in x) r (ap (λ ps. of_port N q ps (handed_in x)) (host ports refl) ∙ e)
    does_changed (Confirm q upto) (OfNode node) r host e = cc
    does_changed (Confirm q upto) (OfHost ports) r host e = port_changed N q (confirmed upto) r (ap (λ ps. of_port N q ps (confirmed upto)) (host ports refl) ∙ e)

  entry_changed : (M : Machine Node) (e : Entry) (t : Network Node) → next M s e ≡ Some t → Changed (change_at s.wires p e) t.ports
  entry_changed M e t h =
      let S = step_of M s e t h in
      let ports : ports_after s S.now ≡ t.ports = sym (put_ports (record s { lines = sent (has_wire s.wires) S.out S.sends }) (process s.wires (length s.nodes) e) S.now) ∙ ap (λ u. u.ports) S.makes in
      subst (Changed (change_at s.wires p e)) ports
      (does_changed M (length s.nodes) e S.was (S.now, S.sends) (λ hosts is. (own_host s (process s.wires (length s.nodes) e) hosts (S.own_was ∙ ap Some is)).1) S.change)

-- ## Bytes that come by changes

-- `Holds` says of some bytes that they came between two states of a port. No bytes come if nothing changes.
module _ (Holds : List ℕ → Port → Port → Type 0) (none : (port : Port) → Holds [] port port) where
  -- the change brings these bytes
  abbrev pub Brings : Change → List ℕ → Type 0
  Brings change more = (before later : Port) (sends : List Token) → change before ≡ Some (later, sends) → Holds more before later

  pub same_holds : (before later : Port) → before ≡ later → Holds [] before later
  same_holds before later same = subst (Holds [] before) same (none before)

  pub if_holds : (test : Bool) (change : Change) (more : List ℕ) → Brings change more → (before later : Port) → Becomes (only test change) before later → Holds (cond test more []) before later
  if_holds true change more brings before later B = brings before later B.0 B.1
  if_holds false change more brings before later B = same_holds before later B

  pub none_holds : (test : Bool) (change : Change) → Brings change [] → (before later : Port) → Becomes (only test change) before later → Holds [] before later
  none_holds true change brings before later B = brings before later B.0 B.1
  none_holds false change brings before later B = same_holds before later B

  -- The bytes of each entry come by its change. Those of two changes, one after the other, are those of the first and then those of the second.
  module _ (both : (one two : List ℕ) (a b c : Port) → Holds one a b → Holds two b c → Holds (one ++ two) a c)
      (p : ℕ) (bytes : List (Option WireEnd) → Entry → List ℕ)
      (each : (wires : List (Option WireEnd)) (e : Entry) (before later : Port) → Becomes (change_at wires p e) before later → Holds (bytes wires e) before later) where
    -- So the bytes of all entries come by all of them.
    pub after_holds : {Node : Type 0} (M : Machine Node) → HasFourLinks M → (s t : Network Node) (es : List Entry) → after M s es ≡ Some t
        → (port : Port) → slice_get s.ports p ≡ Some port → (later : Port) × (slice_get t.ports p ≡ Some later) × Holds (flat_map (bytes s.wires) es) port later
    unfolding after
    after_holds M four s t [] h port at = let same : s ≡ t = cc in (port, ap (λ u. slice_get u.ports p) (sym same) ∙ at, none port)
    after_holds M four s t (e ∷ es) h port at =
        let F = first_possible M s t e es h in
        let one = entry_changed s p port at M e F.0 F.1 in
        let rest = after_holds M four F.0 t es F.2 one.later one.there in
        let shape = step_shape M four s e F.0 (step_of M s e F.0 F.1) in
        let wires : flat_map (bytes F.0.wires) es ≡ flat_map (bytes s.wires) es = ap (λ ws. flat_map (bytes ws) es) shape.wires in
        let first = each s.wires e port one.later one.becomes in
        (rest.0, rest.1, subst (λ more. Holds (bytes s.wires e ++ more) port rest.0) wires (both (bytes s.wires e) (flat_map (bytes F.0.wires) es) port one.later rest.0 first rest.2))
