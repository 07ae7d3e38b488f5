use Rattle.std.proofs.Common.{◌≡◌, ◌+◌, ◌++◌, length, map}
use Rattle.tp_area.proofs.Lower.{range_with_len, port_wire}
use Rattle.tp_area.proofs.encoding.wires.add_ports.Given as goal

abbrev pub invariant-loop-port : goal.invariant-loop-port
invariant-loop-port l = record {
  wires : l.wires.items ≡ l.fn.wires.items ++ map (port_wire l.nodes l.links) (range_with_len 0 l.port);
  count : length l.wires.items ≡ length l.fn.wires.items + l.port;
}
