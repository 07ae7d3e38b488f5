-- The ports of an opened state.
use Rattle.std.proofs.Common.{◌≡◌, List, [], ◌∷◌, map, refl, ap}
use Rattle.tp_book.specs.declared.ports.port_parts.PortParts.{PortParts}
use Rattle.tp_book.specs.PortParts.{port_made}
use Rattle.tp_book.specs.Ports.{opened_port}

-- they are the ports that the parts are
pub opened_ports : (parts : List PortParts) → map (λ p. p.port) (map (λ port. opened_port (port_made port)) parts) ≡ map port_made parts
opened_ports [] = refl
opened_ports (p ∷ ps) = ap (λ more. port_made p ∷ more) (opened_ports ps)
