-- What a process has done under its own lock, and the book doesn't have yet.
use Rattle.std.specs.Prelude.{◌≡◌, ◌≢◌, ℕ, ◌+◌, ◌*◌, true, nat_lt, nat_le, if◌then◌else◌, List, [], ◌∷◌, map, length, Some}
use Rattle.tp_law_network.specs.Lower.{Token, Received, Entry, Turn, MAX_STEPS, Machine, Network, Own, own, taken, by_link, by_line, comes_in, turned, process, takes, does, BookState, with_half, Act, Begin, Record, Journal, Close, Trim}
use Rattle.tp_law_network.specs.Turns.{run_of}

-- The entry is possible: what it takes is at the front of its lines, and its process goes from `was` to `now` and sends this.
pub record MayBeMade {Node : Type 0} (M : Machine Node) (s : Network Node) (e : Entry) (was now : Own Node) (sends : List (ℕ × Token)) : Type 0 where
  pub out : List (List Token)
  pub front : taken s.lines (takes s.wires (length s.nodes) e) ≡ Some out
  pub there : own s (process s.wires (length s.nodes) e) ≡ Some was
  pub change : does M s.wires (length s.nodes) e was ≡ Some (now, sends)

-- the act is no entry of that process
abbrev pub IsOfOthers : {Node : Type 0} → Network Node → Entry → Act → Type 0
IsOfOthers s e Begin = Unit {0}
IsOfOthers s e (Record node) = Unit {0}
IsOfOthers s e (Journal other) = process s.wires (length s.nodes) other ≢ process s.wires (length s.nodes) e
IsOfOthers s e (Close line) = Unit {0}
IsOfOthers s e Trim = Unit {0}

-- ## What the book is given at a turn's commit

-- the entry of a turn: a Turn if it took tokens, else a Run, else none
abbrev pub turn_entries : ℕ → List Received → ℕ → List Entry
turn_entries node takes count = if nat_lt 0 (length (by_link 0 takes)) then Turn node takes count ∷ [] else run_of node count

abbrev pub turn_acts : ℕ → List Received → ℕ → List Act
turn_acts node takes count = map Journal (turn_entries node takes count)

-- the book's half of it, with the `tokens` that the turn sent, each with its link
abbrev pub with_made : {Node : Type 0} → BookState Node → List Entry → List (ℕ × Token) → BookState Node
with_made b [] sends = b
with_made b (e ∷ es) sends = with_half b e b.ports sends

abbrev pub with_turn : {Node : Type 0} → BookState Node → ℕ → List Received → ℕ → List (ℕ × Token) → BookState Node
with_turn b node takes count tokens = with_made b (turn_entries node takes count) (map (λ m. (4 * node + m.0, m.1)) tokens)

-- Node i took these tokens, which are still at the front of their lines, made `count` steps, and sent `tokens` for all of it.
pub record HasTurned {Node : Type 0} (M : Machine Node) (b : BookState Node) (i : ℕ) (takes : List Received) (count : ℕ) (tokens : List (ℕ × Token)) (before after : Node) : Type 0 where
  pub into : comes_in b.start.wires (length b.start.nodes) i (by_link 0 takes) ≡ true
  pub out : List (List Token)
  pub front : taken b.lines (by_line b.start.wires (length b.start.nodes) i (by_link 0 takes)) ≡ Some out
  pub few : nat_le count MAX_STEPS ≡ true
  pub made : turned M (by_link 0 takes) count before ≡ Some (after, tokens)

-- ## Tokens that a turn has received, and that stay on their lines until its commit

-- the act is no entry of process p
abbrev pub IsNotOf : {Node : Type 0} → Network Node → ℕ → Act → Type 0
IsNotOf s p Begin = Unit {0}
IsNotOf s p (Record node) = Unit {0}
IsNotOf s p (Journal other) = process s.wires (length s.nodes) other ≢ p
IsNotOf s p (Close line) = Unit {0}
IsNotOf s p Trim = Unit {0}

-- Node i has received these on its links: each on a line that comes in on its link, and they are fronts of their lines.
pub record IsReceived {Node : Type 0} (s : Network Node) (i : ℕ) (takes : List Received) : Type 0 where
  pub into : comes_in s.wires (length s.nodes) i (by_link 0 takes) ≡ true
  pub out : List (List Token)
  pub front : taken s.lines (by_line s.wires (length s.nodes) i (by_link 0 takes)) ≡ Some out
