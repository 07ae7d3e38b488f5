use Rattle.std.proofs.Common.{◌≡◌, map, take}
use Rattle.tp_book.specs.PortParts.{port_made}
use Rattle.tp_book.specs.Ports.{opened_port}
use Rattle.tp_book.proofs.ports.fill.ports_with.Given as goal

abbrev pub invariant-loop-port : goal.invariant-loop-port
invariant-loop-port l = l.ports.items ≡ map (λ port. opened_port (port_made port)) (take l.port l.parts)
