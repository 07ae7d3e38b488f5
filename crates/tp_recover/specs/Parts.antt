-- A cut as its parts.
use Rattle.std.specs.Prelude.{map}
use Rattle.tp_recover.specs.Lower.{NodeState, Network, port_made}
use Rattle.tp_recover.specs.declared.area.flights.CutParts.{CutParts}

-- the network of the parts
abbrev pub network_of_parts : CutParts → Network NodeState
network_of_parts c = record {
  wires = c.wires.now;
  nodes = map (λ node. node.live) c.nodes.now;
  ports = map port_made c.ports.now;
  lines = map (λ line. line.items) c.lines.now;
}
