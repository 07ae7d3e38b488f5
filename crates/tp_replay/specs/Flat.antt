-- What every network in one thread keeps.
use Rattle.std.specs.Prelude.{◌≡◌, ◌≤◌, ◌<◌, ℕ, ◌+◌, ◌*◌, ◌^◌, List, length, map, Option, Some, None, slice_get}
use Rattle.tp_replay.specs.Lower.{Token, WireEnd, Entry, Run, Take, HostIn, Confirm, Turn, NodeState, t414_ends, Network, on_line, Sound, markers, MAX_NODES, MAX_PORTS, by_link, CarriesByte, CarryBytes, IsNodeOfBytes, NodeContents, PortValue, Port}

-- A line for each link and each port, and at most as many nodes and ports as a network may have.
pub record HasFlatShape (s : Network NodeState) : Type 0 where
  pub wires : length s.wires ≡ 4 * length s.nodes + length s.ports
  pub lines : length s.lines ≡ 4 * length s.nodes + length s.ports
  pub few_nodes : length s.nodes ≤ MAX_NODES
  pub few_ports : length s.ports ≤ MAX_PORTS

-- It is sound and shaped, no line has two Markers, and each node has an image.
pub record IsFlat (s : Network NodeState) : Type 0 where
  pub sound : Sound t414_ends s
  pub shaped : HasFlatShape s
  pub marked : (line : ℕ) → markers (on_line s.lines line) ≤ 1
  pub nodes : (i : ℕ) (node : NodeState) → slice_get s.nodes i ≡ Some node → IsNodeOfBytes node

-- the data byte that an entry takes is below 256
abbrev pub EntryTakesByte : Entry → Type 0
EntryTakesByte (Run node count) = Unit {0}
EntryTakesByte (Take line token) = CarriesByte token
EntryTakesByte (HostIn port byte) = Unit {0}
EntryTakesByte (Confirm port upto) = Unit {0}
EntryTakesByte (Turn node takes count) = CarryBytes (by_link 0 takes)

-- the network of the nodes and ports, with the wires and lines
abbrev pub network_flat : List (Option WireEnd) → List NodeContents → List (List Token) → List PortValue → Network NodeState
network_flat wires nodes lines ports = record {
  wires = wires;
  nodes = map (λ node. node.live) nodes;
  ports = map (λ port. port.port) ports;
  lines = lines;
}

-- no node is frozen
abbrev pub AreThawed : List NodeContents → Type 0
AreThawed nodes = (i : ℕ) (node : NodeContents) → slice_get nodes i ≡ Some node → node.frozen ≡ None

-- each port can count one more byte
abbrev pub CanCount : Network NodeState → Type 0
CanCount s = (p : ℕ) (port : Port) → slice_get s.ports p ≡ Some port → port.in_base + 1 < 2 ^ 64
