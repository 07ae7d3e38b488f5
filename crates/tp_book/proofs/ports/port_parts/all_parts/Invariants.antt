use Rattle.std.proofs.Common.{◌≡◌, map, take}
use Rattle.tp_book.specs.PortParts.{port_made}
use Rattle.tp_book.proofs.ports.port_parts.all_parts.Given as goal

abbrev pub invariant-loop-i : goal.invariant-loop-i
invariant-loop-i l = map port_made l.parts.items ≡ map (λ port. port.port) (take l.i l.ports)
