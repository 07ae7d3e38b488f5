-- The ports so far are copied.
use Rattle.std.proofs.Common.{◌≡◌, map, take}
use Rattle.tp_book.specs.PortParts.{port_made}
use Rattle.tp_shared.proofs.flusher.copies.copy_ports.Given as goal

abbrev pub invariant-loop-port : goal.invariant-loop-port
invariant-loop-port l = map port_made l.parts.items ≡ map port_made (take l.port-index l.ports)
