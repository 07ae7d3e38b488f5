-- A network taken apart.
use Rattle.std.specs.Prelude.{◌≡◌, ◌≤◌, ℕ, ◌+◌, ◌*◌, length, map}
use Rattle.tp_replay.specs.Lower.{MAX_NODES, MAX_PORTS, NodeState, Network, on_line, markers, t414_ends, Sound}
use Rattle.tp_replay.specs.declared.pieces.apart.Apart.{Apart}
use Rattle.tp_replay.specs.NodesInside.{AreLive}

-- the network that was taken apart
abbrev pub network_apart : Apart → Network NodeState
network_apart a = record {
  wires = a.wires.items;
  nodes = map (λ node. node.live) a.nodes.items;
  ports = map (λ port. port.port) a.ports.items;
  lines = a.lines;
}

-- It can be split: it is sound and has no Markers. There is a line for each link and each port, and at most as many nodes and ports as a
-- network may have. Each node has an image and is not frozen.
pub record CanSplit (a : Apart) : Type 0 where
  pub sound : Sound t414_ends (network_apart a)
  pub unmarked : (line : ℕ) → markers (on_line a.lines line) ≡ 0
  pub wires : length a.wires.items ≡ 4 * length a.nodes.items + length a.ports.items
  pub lines : length a.lines ≡ 4 * length a.nodes.items + length a.ports.items
  pub few : length a.nodes.items ≤ MAX_NODES
  pub few_ports : length a.ports.items ≤ MAX_PORTS
  pub live : AreLive a.nodes.items
