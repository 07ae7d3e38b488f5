-- Each kind of entry, if it is possible: a step of the network.
use Rattle.std.proofs.Common.{◌≡◌, ℕ, ◌+◌, ◌*◌, ◌<◌, ◌≤◌, true, cond, List, [], ◌∷◌, ◌++◌, length, map, set, drop, refl, ap, ◌∙◌, Some, None, slice_get}
use Rattle.std.specs.Prelude.{nat_lt, nat_le, ◌&&◌}
use Rattle.tp_replay.proofs.Lower.{option_map, and_from, cond-true, lt-ltb, le-leb, Token, Received, Link, AtPort, Entry, Run, Take, HostIn, Confirm, Turn, MAX_STEPS, NodeState, t414, took, ◌>>=◌, steps, Port, Network, OfNode, OfHost, own, put, receiver, has_wire, process_at, on_line, is_first, taken, sent, by_link, comes_in, took_all, turned, process, takes, of_node, receives, port_took, handed_in, confirmed, does, IsFront, Step, own-host}
pub use Rattle.tp_book.proofs.Owns.{own_there}
use Rattle.tp_replay.proofs.Lower.{of_port-is, on_lines}
use Rattle.tp_replay.proofs.Room.{taken-front}

-- the lines without the front of one
abbrev pub without_front : List (List Token) → ℕ → List (List Token)
without_front lines line = set lines line (drop 1 (on_line lines line))

-- what a port sends, on its line
abbrev pub on_port : ℕ → List Token → List (ℕ × Token)
on_port line tokens = map (λ token. (line, token)) tokens

-- the network after what a node, or a port, did, with the tokens that it sent
abbrev pub node_after : Network NodeState → List (List Token) → ℕ → NodeState → List (ℕ × Token) → Network NodeState
node_after s lines i node tokens = record s { nodes = set s.nodes i node; lines = sent (has_wire s.wires) lines (on_lines i tokens) }

abbrev pub port_after : Network NodeState → List (List Token) → ℕ → Port → List Token → Network NodeState
port_after s lines p port tokens =
    record s { ports = set s.ports p port; lines = sent (has_wire s.wires) lines (on_port (4 * length s.nodes + p) tokens) }

-- the step that an entry is: what it leaves of the lines that it takes from, and what it sends
pub record Made (s : Network NodeState) (e : Entry) (out : List (List Token)) (sends : List (ℕ × Token)) (t : Network NodeState) : Type 0 where
  pub step : Step t414 s e t
  pub is_out : step.out ≡ out
  pub is_sends : step.sends ≡ sends

made : (s : Network NodeState) (e : Entry) (t : Network NodeState) (S : Step t414 s e t) → Made s e S.out S.sends t
made s e t S = record { step = S; is_out = refl; is_sends = refl }

pub run_step : (s : Network NodeState) (i count : ℕ) (n after : NodeState) (tokens : List (ℕ × Token)) → slice_get s.nodes i ≡ Some n
    → 0 < count → count ≤ MAX_STEPS → steps t414 count n ≡ Some (after, tokens)
    → Made s (Run i count) s.lines (on_lines i tokens) (node_after s s.lines i after tokens)
unfolding taken takes process does put
run_step s i count n after tokens at some few ran = made s (Run i count) _ (record {
  out = s.lines;
  takes_out = refl;
  was = OfNode n;
  own_was = own_there s i n at;
  now = OfNode after;
  sends = on_lines i tokens;
  change =
      ap (λ c. cond (c && nat_le count MAX_STEPS) (option_map (of_node i) (steps t414 count n)) None) (lt-ltb 0 count some)
      ∙ ap (λ c. cond c (option_map (of_node i) (steps t414 count n)) None) (le-leb count MAX_STEPS few)
      ∙ ap (option_map (of_node i)) ran;
  makes = refl;
})

pub node_takes : (s : Network NodeState) (line i k : ℕ) (token : Token) (n after : NodeState) (tokens : List (ℕ × Token))
    → receiver s.wires line ≡ Some (Link i k) → is_first (on_line s.lines line) token ≡ true → slice_get s.nodes i ≡ Some n
    → took n k token ≡ Some (after, tokens)
    → Made s (Take line token) (without_front s.lines line) (on_lines i tokens) (node_after s (without_front s.lines line) i after tokens)
unfolding takes process does receives put
node_takes s line i k token n after tokens to front at did =
    made s (Take line token) _ (record {
      out = without_front s.lines line;
      takes_out = taken-front s.lines line token front;
      was = OfNode n;
      own_was = ap (own s) mine ∙ own_there s i n at;
      now = OfNode after;
      sends = on_lines i tokens;
      change = ap (λ end. receives t414 (length s.nodes) end token (OfNode n)) to ∙ ap (option_map (of_node i)) did;
      makes = ap (λ p. put (record s { lines = sent (has_wire s.wires) (without_front s.lines line) (on_lines i tokens) }) p (OfNode after)) mine;
    })
  where
    mine : process_at (length s.nodes) (receiver s.wires line) ≡ i
    mine = ap (process_at (length s.nodes)) to

pub port_takes : (s : Network NodeState) (line p : ℕ) (token : Token) (port after : Port) (tokens : List Token)
    → receiver s.wires line ≡ Some (AtPort p) → is_first (on_line s.lines line) token ≡ true → slice_get s.ports p ≡ Some port
    → port_took token port ≡ Some (after, tokens)
    → Made s (Take line token) (without_front s.lines line) (on_port (4 * length s.nodes + p) tokens) (port_after s (without_front s.lines line) p after tokens)
unfolding takes process does receives put
port_takes s line p token port after tokens to front at did =
    made s (Take line token) _ (record {
      out = without_front s.lines line;
      takes_out = taken-front s.lines line token front;
      was = OfHost s.ports;
      own_was = ap (own s) mine ∙ own-host s;
      now = OfHost (set s.ports p after);
      sends = on_port (4 * length s.nodes + p) tokens;
      change = ap (λ end. receives t414 (length s.nodes) end token (OfHost s.ports)) to ∙ of_port-is (length s.nodes) p s.ports port (after, tokens) (port_took token) at did;
      makes = refl;
    })
  where
    mine : process_at (length s.nodes) (receiver s.wires line) ≡ length s.nodes
    mine = ap (process_at (length s.nodes)) to

pub hand_in_step : (s : Network NodeState) (p byte : ℕ) (port after : Port) (tokens : List Token) → slice_get s.ports p ≡ Some port → handed_in byte port ≡ Some (after, tokens)
    → Made s (HostIn p byte) s.lines (on_port (4 * length s.nodes + p) tokens) (port_after s s.lines p after tokens)
unfolding taken takes process does put
hand_in_step s p byte port after tokens at did = made s (HostIn p byte) _ (record {
  out = s.lines;
  takes_out = refl;
  was = OfHost s.ports;
  own_was = own-host s;
  now = OfHost (set s.ports p after);
  sends = on_port (4 * length s.nodes + p) tokens;
  change = of_port-is (length s.nodes) p s.ports port (after, tokens) (handed_in byte) at did;
  makes = refl;
})

pub confirm_step : (s : Network NodeState) (p upto : ℕ) (port after : Port) (tokens : List Token) → slice_get s.ports p ≡ Some port → confirmed upto port ≡ Some (after, tokens)
    → Made s (Confirm p upto) s.lines (on_port (4 * length s.nodes + p) tokens) (port_after s s.lines p after tokens)
unfolding taken takes process does put
confirm_step s p upto port after tokens at did = made s (Confirm p upto) _ (record {
  out = s.lines;
  takes_out = refl;
  was = OfHost s.ports;
  own_was = own-host s;
  now = OfHost (set s.ports p after);
  sends = on_port (4 * length s.nodes + p) tokens;
  change = of_port-is (length s.nodes) p s.ports port (after, tokens) (confirmed upto) at did;
  makes = refl;
})

pub turn_takes : (s : Network NodeState) (i : ℕ) (links : List Received) (most count : ℕ) (mid after : NodeState) (answers tokens : List (ℕ × Token)) (F : IsFront s i links most)
    → nat_le count MAX_STEPS ≡ true → took_all t414 (by_link 0 links) F.node ≡ Some (mid, answers) → steps t414 count mid ≡ Some (after, tokens)
    → Made s (Turn i links count) F.out (on_lines i (answers ++ tokens)) (node_after s F.out i after (answers ++ tokens))
unfolding taken takes process does put turned
turn_takes s i links most count mid after answers tokens F few took ran =
    let ms = by_link 0 links in
    made s (Turn i links count) _ (record {
      out = F.out;
      takes_out = F.front;
      was = OfNode F.node;
      own_was = own_there s i F.node F.there;
      now = OfNode after;
      sends = on_lines i (answers ++ tokens);
      change =
          cond-true (comes_in s.wires (length s.nodes) i ms && (nat_lt 0 (length ms) && nat_le count MAX_STEPS)) (option_map (of_node i) (turned t414 ms count F.node)) None
          (and_from (comes_in s.wires (length s.nodes) i ms) (nat_lt 0 (length ms) && nat_le count MAX_STEPS) F.into (and_from (nat_lt 0 (length ms)) (nat_le count MAX_STEPS) F.some few))
          ∙ ap (λ o. option_map (of_node i) (o >>= λ first. steps t414 count first.0 >>= λ rest. Some (rest.0, first.1 ++ rest.1))) took
          ∙ ap (λ o. option_map (of_node i) (o >>= λ rest. Some (rest.0, answers ++ rest.1))) ran;
      makes = refl;
    })
