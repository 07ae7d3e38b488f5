-- The fields of the host's part: what they mean, and what they keep.
use Rattle.std.specs.Prelude.{◌≡◌, ◌≤◌, ◌+◌, ◌*◌, length, map, replicate, None}
use Rattle.tp_model.specs.declared.limits.TheConstants.{MAX_NODES, MAX_PORTS}
use Rattle.tp_replay.specs.Blank.{blank_node}
use Rattle.tp_replay.specs.Held.{HeldPart}
use Rattle.tp_replay.specs.declared.pieces.host_part.HostPart.TheInside.{Inside}

abbrev pub host_held : Inside → HeldPart
host_held h = record {
  first = h.nodes;
  past = None;
  network = record {
    wires = h.lanes.wires;
    nodes = replicate h.nodes blank_node;
    ports = map (λ port. port.port) h.ports.items;
    lines = h.lanes.lines;
  };
}

-- A line for each link and each port, and at most as many nodes and ports as a network may have.
pub record IsHostInside (h : Inside) : Type 0 where
  pub few : h.nodes ≤ MAX_NODES
  pub few_ports : length h.ports.items ≤ MAX_PORTS
  pub wires : length h.lanes.wires ≡ 4 * h.nodes + length h.ports.items
  pub lines : length h.lanes.lines ≡ 4 * h.nodes + length h.ports.items
