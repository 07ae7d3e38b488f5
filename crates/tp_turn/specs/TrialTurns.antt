-- What turns of a trial do to its network. A part of a turn is seen as the network before it, its entries in order, and the network
-- after it.
use Rattle.std.specs.Prelude.{◌≡◌, ◌<◌, ◌≤◌, ◌⊎◌, ℕ, ◌+◌, ◌*◌, ◌%◌, ◌==◌, Bool, true, false, List, [], map, length, get_or, Option, Some, None, slice_get}
use Rattle.tp_turn.specs.Lower.{Token, Marker, Received, Nothing, WireEnd, Link, AtPort, Entry, Take, NodeState, node_step, t414, Network, Port, receiver, back, on_line, before, after, received, turn_entries, takeable_of, is_full_for}
use Rattle.tp_turn.specs.Turns.{InOrder}
use Rattle.tp_turn.specs.declared.take.TheConstants.{TAKES}

-- ## Takes

-- the port at an end, if it is one
abbrev pub port_there : List Port → Option WireEnd → Option Port
port_there ports None = None
port_there ports (Some (Link i k)) = None
port_there ports (Some (AtPort p)) = slice_get ports p

-- Nothing can be taken from the line. It is empty, or a Marker is at the front, or Data is at the front for a port that has no room for
-- another output.
abbrev pub StaysOnLine : Network NodeState → ℕ → Type 0
StaysOnLine s line =
    (takeable_of (on_line s.lines line) ≡ None)
    ⊎ (is_full_for (port_there s.ports (receiver s.wires line)) (get_or (on_line s.lines line) 0 Marker) ≡ true)

-- `count` tokens were taken from a line, each from its front.
pub record TookSo (line count : ℕ) (s : Network NodeState) (entries : List Entry) (t : Network NodeState) : Type 0 where
  pub tokens : List Token
  pub many : length tokens ≡ count
  pub are : entries ≡ map (λ token. Take line token) tokens
  pub leads : after t414 s entries ≡ Some t

-- All tokens were taken from a line that a turn may take from it: fewer only if nothing more can be taken.
pub record TookAll (line : ℕ) (s : Network NodeState) (entries : List Entry) (t : Network NodeState) : Type 0 where
  pub count : ℕ
  pub few : count ≤ TAKES
  pub took : TookSo line count s entries t
  pub all : count < TAKES → StaysOnLine t line

-- That was done on the line that comes back on a wire; without a wire, nothing was.
abbrev pub TookBack : Option ℕ → Network NodeState → List Entry → Network NodeState → Type 0
TookBack None s entries t = (entries ≡ []) × (t ≡ s)
TookBack (Some line) s entries t = TookAll line s entries t

-- for the line that comes back to the end which sends this one
abbrev pub TookIn : ℕ → Network NodeState → List Entry → Network NodeState → Type 0
TookIn out s entries t = TookBack (back s out) s entries t

-- ## Turns

-- the tokens on the line that comes back on a wire, before its first Marker; none without a wire
abbrev pub standing_on : Network NodeState → Option ℕ → List Token
standing_on s None = []
standing_on s (Some line) = before (on_line s.lines line)

-- A node's turn: it took all that was on its lines, and ran for `quantum` steps, or for fewer, after which it has no step. That is one
-- entry: a Run if nothing was there; none without a step, too.
pub record IsNodeTurn (quantum node : ℕ) (s : Network NodeState) (entries : List Entry) (t : Network NodeState) : Type 0 where
  pub takes : List Received
  pub four : length takes ≡ 4
  pub whole : (link : ℕ) → link < 4 → received (get_or takes link Nothing) ≡ standing_on s (back s (4 * node + link))
  pub count : ℕ
  pub few : count ≤ quantum
  pub are : entries ≡ turn_entries node takes count
  pub leads : after t414 s entries ≡ Some t
  pub now : NodeState
  pub there : slice_get t.nodes node ≡ Some now
  pub all : count < quantum → node_step now ≡ None

-- the host's turn: takes at each of its ports in order
abbrev pub IsHostTurn : Network NodeState → List Entry → Network NodeState → Type 0
IsHostTurn s entries t = InOrder (λ p. TookIn (4 * length s.nodes + p)) (length s.ports) s entries t

-- node 0's turn, or else the host's
abbrev pub IsTurnOf : ℕ → Bool → Network NodeState → List Entry → Network NodeState → Type 0
IsTurnOf quantum true = IsNodeTurn quantum 0
IsTurnOf quantum false = IsHostTurn

-- `turns` turns in order: node 0, the host, node 0, the host ..
abbrev pub AreTurns : ℕ → ℕ → Network NodeState → List Entry → Network NodeState → Type 0
AreTurns quantum turns = InOrder (λ number. IsTurnOf quantum (number % 2 == 0)) turns
