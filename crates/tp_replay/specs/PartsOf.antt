-- A network read out as its parts.
use Rattle.std.specs.Prelude.{◌≡◌, map}
use Rattle.tp_replay.specs.Lower.{NodeState, image, Network, port_made, NetParts}

-- The parts are the network's, each node as its image.
pub record ArePartsOf (parts : NetParts) (s : Network NodeState) : Type 0 where
  pub wires : parts.wires.items ≡ s.wires
  pub images : map (λ bytes. bytes.items) parts.images.items ≡ map image s.nodes
  pub lines : map (λ line. line.items) parts.lines.items ≡ s.lines
  pub ports : map port_made parts.ports.items ≡ s.ports
