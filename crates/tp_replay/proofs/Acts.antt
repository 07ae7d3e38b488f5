-- What is left of an entry, done or not by the process of a part.
use Rattle.std.proofs.Common.{◌≡◌, ℕ, ◌<◌, ◌≤◌, Bool, true, false, cond, inl, inr, List, length, set, refl, sym, ap, subst, ◌∙◌, arith, Option, Some, None, slice_get, nat_lt, nat_le}
use Rattle.std.specs.Prelude.{MatchBool, ◌&&◌, is_some}
use Rattle.tp_replay.proofs.Lower.{option_map, cases_eq, true≢false, slice_get_past, Token, Received, WireEnd, Link, AtPort, Entry, Run, Take, HostIn, Confirm, Turn, MAX_STEPS, NodeState, steps, Port, Network, Own, OfNode, OfHost, own, put, receiver, process_at, has_wire, on_line, sent, process, of_node, of_port, does, receives, port_took, handed_in, confirmed, acts, by_link, comes_in, turned, owner, t414, took, for_line-elsewhere, on_sent_none, put-length, put-lines, sends_own, own-host, own-node, has_four_links, Piece, sends, IsOverfull, Act, acts_from, on_lines, own_there}
use Rattle.tp_replay.specs.Held.{HeldPart, has}
use Rattle.tp_replay.specs.Lanes.{Overfills}
use Rattle.tp_replay.specs.Behind.{behind_tokens, IsStuck, SameProcesses, DoesRest}

-- ## Any process

behind-own : (piece : Piece) (s : Network NodeState) (e : Entry) → piece (process s.wires (length s.nodes) e) ≡ true → behind_tokens piece s e ≡ acts t414 s s.lines e
behind-own piece s e mine = ap (λ b. cond b (acts t414 s s.lines e) (Some s)) mine

-- another part's entry
pub other_rests : (was : HeldPart) (e : Entry) → has was (process was.network.wires (length was.network.nodes) e) ≡ false → DoesRest was e true was
other_rests was e other = record {
  same = record { first = refl; past = refl };
  goes = ap (λ b. cond b (acts t414 was.network was.network.lines e) (Some was.network)) other;
}

-- the process that doesn't exist, or can't do it
pub nobody : (was now : HeldPart) (e : Entry) → SameProcesses was now → has was (process was.network.wires (length was.network.nodes) e) ≡ true → own was.network (process was.network.wires (length was.network.nodes) e) ≡ None → DoesRest was e false now
unfolding acts
nobody was now e same mine none = record { same = same; goes = inl (behind-own (has was) was.network e mine ∙ rw none) }

pub refuses : (was now : HeldPart) (e : Entry) (state : Own NodeState) → SameProcesses was now → has was (process was.network.wires (length was.network.nodes) e) ≡ true → own was.network (process was.network.wires (length was.network.nodes) e) ≡ Some state
    → does t414 was.network.wires (length was.network.nodes) e state ≡ None → DoesRest was e false now
unfolding acts
refuses was now e state same mine there none = record { same = same; goes = inl (behind-own (has was) was.network e mine ∙ rw (there, none)) }

-- A third token on a line: it is a line that the process sends.
overfull : (piece : Piece) (s : Network NodeState) (e : Entry) (v : Network NodeState) (A : Act t414 s s.lines e v) → piece (process s.wires (length s.nodes) e) ≡ true → Overfills (has_wire s.wires) s.lines A.sends → IsOverfull piece v
overfull piece s e v A mine O = record { line = O.line; its = its; long = subst (λ ls. 2 < length (on_line ls O.line)) (sym lines) O.long }
  where
    nodes : length v.nodes ≡ length s.nodes
    nodes = ap (λ u. length u.nodes) (sym A.makes) ∙ put-length (record s { lines = sent (has_wire s.wires) s.lines A.sends }) (process s.wires (length s.nodes) e) A.now

    lines : v.lines ≡ sent (has_wire s.wires) s.lines A.sends
    lines = ap (λ u. u.lines) (sym A.makes) ∙ put-lines (record s { lines = sent (has_wire s.wires) s.lines A.sends }) (process s.wires (length s.nodes) e) A.now

    its : sends piece (length v.nodes) O.line ≡ true
    its = elim (cases_eq (owner (length s.nodes) O.line) (process s.wires (length s.nodes) e)) [
      | inl same ↦ ap (λ N. piece (owner N O.line)) nodes ∙ ap piece same ∙ mine
      | inr apart ↦ (let none = for_line-elsewhere (owner (length s.nodes)) (process s.wires (length s.nodes) e) O.line A.sends (sends_own t414 has_four_links s e A.was (A.now, A.sends) A.own_was A.change) apart in
          let still = ap length (on_sent_none (has_wire s.wires) s.lines A.sends O.line none) in
          absurd (omega (arith, still, O.short, O.long)))
    ]

-- The process does it: the part goes on, or would have a third token on a line.
pub settled : (was now : HeldPart) (e : Entry) (v : Network NodeState) (could : Bool) (lines : List (List Token)) (A : Act t414 was.network was.network.lines e v) → SameProcesses was now
    → has was (process was.network.wires (length was.network.nodes) e) ≡ true → (lines ≡ sent (has_wire was.network.wires) was.network.lines A.sends → now.network ≡ v)
    → MatchBool could (lines ≡ sent (has_wire was.network.wires) was.network.lines A.sends) (Overfills (has_wire was.network.wires) was.network.lines A.sends) → DoesRest was e could now
settled was now e v could lines A same mine net sends = record { same = same; goes = go could sends }
  where
    did : behind_tokens (has was) was.network e ≡ Some v
    did = behind-own (has was) was.network e mine ∙ acts_from t414 was.network was.network.lines e v A

    go : (b : Bool) → MatchBool b (lines ≡ sent (has_wire was.network.wires) was.network.lines A.sends) (Overfills (has_wire was.network.wires) was.network.lines A.sends)
        → MatchBool b (behind_tokens (has was) was.network e ≡ Some now.network) (IsStuck (has was) (behind_tokens (has was) was.network e))
    go true on = did ∙ ap Some (sym (net on))
    go false O = inr (v, did, overfull (has was) was.network e v A mine O)

-- ## A node

-- the node after it, with the lines that it sent
pub node_settled : (was now : HeldPart) (e : Entry) (could : Bool) (i : ℕ) (node after : NodeState) (tokens : List (ℕ × Token)) (lines : List (List Token)) → SameProcesses was now
    → now.network ≡ record was.network { nodes = set was.network.nodes i after; lines = lines } → process was.network.wires (length was.network.nodes) e ≡ i → has was i ≡ true → slice_get was.network.nodes i ≡ Some node
    → does t414 was.network.wires (length was.network.nodes) e (OfNode node) ≡ Some (of_node i (after, tokens))
    → MatchBool could (lines ≡ sent (has_wire was.network.wires) was.network.lines (on_lines i tokens)) (Overfills (has_wire was.network.wires) was.network.lines (on_lines i tokens)) → DoesRest was e could now
unfolding put
node_settled was now e could i node after tokens lines same net mine has_it at change sends =
    settled was now e v could lines act same (ap (has was) mine ∙ has_it) (λ on. net ∙ ap (λ ls. record was.network { nodes = set was.network.nodes i after; lines = ls }) on) sends
  where
    v : Network NodeState
    v = record was.network { nodes = set was.network.nodes i after; lines = sent (has_wire was.network.wires) was.network.lines (on_lines i tokens) }

    act : Act t414 was.network was.network.lines e v
    act = record {
      was = OfNode node;
      own_was = ap (own was.network) mine ∙ own_there was.network i node at;
      now = OfNode after;
      sends = on_lines i tokens;
      change = change;
      makes = ap (λ p. put (record was.network { lines = sent (has_wire was.network.wires) was.network.lines (on_lines i tokens) }) p (OfNode after)) mine;
    }

pub run_does : (wires : List (Option WireEnd)) (N i k : ℕ) (node after : NodeState) (tokens : List (ℕ × Token)) → (nat_lt 0 k && nat_le k MAX_STEPS) ≡ true → steps t414 k node ≡ Some (after, tokens)
    → does t414 wires N (Run i k) (OfNode node) ≡ Some (of_node i (after, tokens))
unfolding does
run_does wires N i k node after tokens counts ran = rw (counts, ran)

pub run_uncounted : (wires : List (Option WireEnd)) (N i k : ℕ) (node : NodeState) → (nat_lt 0 k && nat_le k MAX_STEPS) ≡ false → does t414 wires N (Run i k) (OfNode node) ≡ None
unfolding does
run_uncounted wires N i k node none = rw none

pub run_short : (wires : List (Option WireEnd)) (N i k : ℕ) (node : NodeState) → (nat_lt 0 k && nat_le k MAX_STEPS) ≡ true → steps t414 k node ≡ None → does t414 wires N (Run i k) (OfNode node) ≡ None
unfolding does
run_short wires N i k node counts none = rw (counts, none)

pub node_takes : (wires : List (Option WireEnd)) (N line i k : ℕ) (token : Token) (node after : NodeState) (tokens : List (ℕ × Token)) → receiver wires line ≡ Some (Link i k)
    → took node k token ≡ Some (after, tokens) → does t414 wires N (Take line token) (OfNode node) ≡ Some (of_node i (after, tokens))
unfolding does receives
node_takes wires N line i k token node after tokens to did = rw (to, did)

pub node_refuses : (wires : List (Option WireEnd)) (N line i k : ℕ) (token : Token) (node : NodeState) → receiver wires line ≡ Some (Link i k) → took node k token ≡ None
    → does t414 wires N (Take line token) (OfNode node) ≡ None
unfolding does receives
node_refuses wires N line i k token node to none = rw (to, none)

-- a turn that the node can make, that no node can make, and that this one can't
pub turn_does : (wires : List (Option WireEnd)) (N i k : ℕ) (links : List Received) (node after : NodeState) (tokens : List (ℕ × Token))
    → (comes_in wires N i (by_link 0 links) && (nat_lt 0 (length (by_link 0 links)) && nat_le k MAX_STEPS)) ≡ true → turned t414 (by_link 0 links) k node ≡ Some (after, tokens)
    → does t414 wires N (Turn i links k) (OfNode node) ≡ Some (of_node i (after, tokens))
unfolding does
turn_does wires N i k links node after tokens may made = rw (may, made)

pub turn_refused : (wires : List (Option WireEnd)) (N i k : ℕ) (links : List Received) (node : NodeState)
    → (comes_in wires N i (by_link 0 links) && (nat_lt 0 (length (by_link 0 links)) && nat_le k MAX_STEPS)) ≡ false → does t414 wires N (Turn i links k) (OfNode node) ≡ None
unfolding does
turn_refused wires N i k links node none = rw none

pub turn_short : (wires : List (Option WireEnd)) (N i k : ℕ) (links : List Received) (node : NodeState)
    → (comes_in wires N i (by_link 0 links) && (nat_lt 0 (length (by_link 0 links)) && nat_le k MAX_STEPS)) ≡ true → turned t414 (by_link 0 links) k node ≡ None
    → does t414 wires N (Turn i links k) (OfNode node) ≡ None
unfolding does
turn_short wires N i k links node may none = rw (may, none)

-- ## The host's entries

-- an end that no node has is the host's
pub end_of_host : (N : ℕ) (end : Option WireEnd) → ((node link : ℕ) → end ≡ Some (Link node link) → ⊥) → process_at N end ≡ N
end_of_host N None h = refl
end_of_host N (Some (AtPort p)) h = refl
end_of_host N (Some (Link i k)) h = absurd (h i k refl)

-- ## Options

-- what doesn't exist
pub none_is : {A : Type 0} (o : Option A) → is_some o ≡ false → o ≡ None
none_is None h = refl
none_is (Some x) h = absurd (true≢false h)

-- an element that is read twice
pub same_item : {A : Type 0} (xs : List A) (i : ℕ) (x y : A) → slice_get xs i ≡ Some x → slice_get xs i ≡ Some y → x ≡ y
same_item xs i x y first second = cc

-- ## The host

-- a process after the nodes is the host, or doesn't exist
pub host_cannot : (was now : HeldPart) (e : Entry) → SameProcesses was now → length was.network.nodes ≤ process was.network.wires (length was.network.nodes) e → has was (process was.network.wires (length was.network.nodes) e) ≡ true
    → does t414 was.network.wires (length was.network.nodes) e (OfHost was.network.ports) ≡ None → DoesRest was e false now
host_cannot was now e same past mine none = elim (cases_eq (process was.network.wires (length was.network.nodes) e) (length was.network.nodes)) [
  | inl host ↦ refuses was now e (OfHost was.network.ports) same mine (ap (own was.network) host ∙ own-host was.network) none
  | inr apart ↦ nobody was now e same mine (own-node was.network (process was.network.wires (length was.network.nodes) e) apart ∙ ap (option_map OfNode) (slice_get_past was.network.nodes (process was.network.wires (length was.network.nodes) e) past))
]

pub port_settled : (was now : HeldPart) (e : Entry) (could : Bool) (p : ℕ) (after : Port) (sends : List (ℕ × Token)) (lines : List (List Token)) → SameProcesses was now
    → now.network ≡ record was.network { ports = set was.network.ports p after; lines = lines } → process was.network.wires (length was.network.nodes) e ≡ length was.network.nodes → has was (length was.network.nodes) ≡ true
    → does t414 was.network.wires (length was.network.nodes) e (OfHost was.network.ports) ≡ Some (OfHost (set was.network.ports p after), sends)
    → MatchBool could (lines ≡ sent (has_wire was.network.wires) was.network.lines sends) (Overfills (has_wire was.network.wires) was.network.lines sends) → DoesRest was e could now
unfolding put
port_settled was now e could p after sends lines same net mine has_it change sent_so =
    settled was now e v could lines act same (ap (has was) mine ∙ has_it) (λ on. net ∙ ap (λ ls. record was.network { ports = set was.network.ports p after; lines = ls }) on) sent_so
  where
    v : Network NodeState
    v = record was.network { ports = set was.network.ports p after; lines = sent (has_wire was.network.wires) was.network.lines sends }

    act : Act t414 was.network was.network.lines e v
    act = record {
      was = OfHost was.network.ports;
      own_was = ap (own was.network) mine ∙ own-host was.network;
      now = OfHost (set was.network.ports p after);
      sends = sends;
      change = change;
      makes = refl;
    }

pub port_takes : (wires : List (Option WireEnd)) (N line p : ℕ) (token : Token) (ports : List Port) → receiver wires line ≡ Some (AtPort p)
    → ◌≡◌ {A = Option (Own NodeState × List (ℕ × Token))} (does t414 wires N (Take line token) (OfHost ports)) (of_port N p ports (port_took token))
unfolding does receives
port_takes wires N line p token ports to = rw to

pub unwired_takes : (wires : List (Option WireEnd)) (N line : ℕ) (token : Token) (ports : List Port) → receiver wires line ≡ None
    → ◌≡◌ {A = Option (Own NodeState × List (ℕ × Token))} (does t414 wires N (Take line token) (OfHost ports)) None
unfolding does receives
unwired_takes wires N line token ports to = rw to

pub linked_takes : (wires : List (Option WireEnd)) (N line i k : ℕ) (token : Token) (ports : List Port) → receiver wires line ≡ Some (Link i k)
    → ◌≡◌ {A = Option (Own NodeState × List (ℕ × Token))} (does t414 wires N (Take line token) (OfHost ports)) None
unfolding does receives
linked_takes wires N line i k token ports to = rw to

pub host_runs : (wires : List (Option WireEnd)) (N i k : ℕ) (ports : List Port) → ◌≡◌ {A = Option (Own NodeState × List (ℕ × Token))} (does t414 wires N (Run i k) (OfHost ports)) None
unfolding does
host_runs wires N i k ports = refl

pub host_turns : (wires : List (Option WireEnd)) (N i k : ℕ) (links : List Received) (ports : List Port)
    → ◌≡◌ {A = Option (Own NodeState × List (ℕ × Token))} (does t414 wires N (Turn i links k) (OfHost ports)) None
unfolding does
host_turns wires N i k links ports = refl

pub port_hands : (wires : List (Option WireEnd)) (N p x : ℕ) (ports : List Port)
    → ◌≡◌ {A = Option (Own NodeState × List (ℕ × Token))} (does t414 wires N (HostIn p x) (OfHost ports)) (of_port N p ports (handed_in x))
unfolding does
port_hands wires N p x ports = refl

pub port_confirms : (wires : List (Option WireEnd)) (N p upto : ℕ) (ports : List Port)
    → ◌≡◌ {A = Option (Own NodeState × List (ℕ × Token))} (does t414 wires N (Confirm p upto) (OfHost ports)) (of_port N p ports (confirmed upto))
unfolding does
port_confirms wires N p upto ports = refl

-- a port that doesn't exist changes in no way, nor does one that can't
pub of_port-nowhere : (N p : ℕ) (ports : List Port) (change : Port → Option (Port × List Token)) → length ports ≤ p → ◌≡◌ {A = Option (Own NodeState × List (ℕ × Token))} (of_port N p ports change) None
unfolding of_port
of_port-nowhere N p ports change past = rw (slice_get_past ports p past)

pub of_port-cannot : (N p : ℕ) (ports : List Port) (port : Port) (change : Port → Option (Port × List Token)) → slice_get ports p ≡ Some port → is_some (change port) ≡ false
    → ◌≡◌ {A = Option (Own NodeState × List (ℕ × Token))} (of_port N p ports change) None
unfolding of_port
of_port-cannot N p ports port change there isnt = rw (there, none_is (change port) isnt)
