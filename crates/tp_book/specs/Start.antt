-- A book at its start.
use Rattle.std.specs.Prelude.{◌≡◌, ◌≤◌, ℕ, ◌+◌, ◌*◌, false, [], length, replicate, Option, None}
use Rattle.tp_book.specs.Lower.{NodeState, t414_ends, Network, Sound, Turns, MAX_NODES, MAX_PORTS}
use Rattle.tp_book.specs.Ports.{fresh_value}
use Rattle.tp_book.specs.Book.{BookValue}

-- The network is sound, nothing is under way and nothing has happened at its ports.
pub record IsFresh (s : Network NodeState) : Type 0 where
  pub sound : Sound t414_ends s
  pub lines : s.lines ≡ replicate (length s.wires) []
  pub ports : s.ports ≡ replicate (length s.ports) fresh_value.port

-- A line for each link and each port, and at most as many nodes and ports as a network may have.
pub record IsNetwork (s : Network NodeState) : Type 0 where
  pub wires : length s.wires ≡ 4 * length s.nodes + length s.ports
  pub few_nodes : length s.nodes ≤ MAX_NODES
  pub few_ports : length s.ports ≤ MAX_PORTS

-- the book of a network in which nothing has happened, on a device with `room` bytes for groups or without one
abbrev pub first_book : Network NodeState → Option ℕ → BookValue
first_book s room = record {
  state = record { start = s; entries = []; ports = s.ports; lines = s.lines; snapshot = None };
  numbers = [];
  base = 0;
  runs = replicate (length s.nodes) false;
  ready = None;
  broken = false;
  room = room;
  marks = replicate (length s.ports) [];
  frozen = [];
  history = [];
  generation = 1;
  floor = 0;
  form = Turns;
}
