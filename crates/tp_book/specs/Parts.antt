-- A network as its parts, with each node as its image.
use Rattle.std.specs.Prelude.{map}
use Rattle.tp_book.specs.Lower.{NodeState, node_at, Network}
use Rattle.tp_book.specs.PortParts.{port_made}
use Rattle.tp_book.specs.declared.parts.NetParts.{NetParts}

-- the network that the parts are
abbrev pub network_made : NetParts → Network NodeState
network_made p = record {
  wires = p.wires.items;
  nodes = map (λ image. node_at image.items) p.images.items;
  ports = map port_made p.ports.items;
  lines = map (λ line. line.items) p.lines.items;
}
