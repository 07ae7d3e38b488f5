-- The fields of parts: what they mean, and what they keep.
use Rattle.std.specs.Prelude.{◌≡◌, ◌≤◌, ℕ, ◌+◌, ◌*◌, List, length, map, replicate, None, Some, slice_get}
use Rattle.tp_replay.specs.Lower.{MAX_NODES, MAX_PORTS, NodeState, Network, IsNodeOfBytes, NodeContents}
use Rattle.tp_replay.specs.Blank.{among, blank_port}
use Rattle.tp_replay.specs.Held.{HeldPart}
use Rattle.tp_replay.specs.Lanes.{LanesValue}
use Rattle.tp_replay.specs.declared.pieces.nodes_part.NodesPart.TheInside.{Inside as NodesInside}

-- a run of nodes, with the numbers of nodes before it and after it
abbrev pub network_around : ℕ → List NodeContents → ℕ → ℕ → LanesValue → Network NodeState
network_around before nodes behind ports lanes = record {
  wires = lanes.wires;
  nodes = among before (map (λ node. node.live) nodes) behind;
  ports = replicate ports blank_port;
  lines = lanes.lines;
}

abbrev pub nodes_held : NodesInside → HeldPart
nodes_held n = record {
  first = n.before;
  past = Some (n.before + length n.nodes.items);
  network = network_around n.before n.nodes.items n.behind n.ports n.lanes;
}

-- it has an image and is not frozen
pub record IsLive (node : NodeContents) : Type 0 where
  pub bytes : IsNodeOfBytes node.live
  pub thawed : node.frozen ≡ None

-- each of the nodes has an image and is not frozen
abbrev pub AreLive : List NodeContents → Type 0
AreLive nodes = (i : ℕ) (node : NodeContents) → slice_get nodes i ≡ Some node → IsLive node

-- A line for each link and each port, at most as many nodes and ports as a network may have, and each of its own has an image.
pub record IsNodesInside (n : NodesInside) : Type 0 where
  pub few : n.before + length n.nodes.items + n.behind ≤ MAX_NODES
  pub few_ports : n.ports ≤ MAX_PORTS
  pub wires : length n.lanes.wires ≡ 4 * (n.before + length n.nodes.items + n.behind) + n.ports
  pub lines : length n.lanes.lines ≡ 4 * (n.before + length n.nodes.items + n.behind) + n.ports
  pub live : AreLive n.nodes.items
