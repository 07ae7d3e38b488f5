-- A port as its parts.
use Rattle.tp_model.specs.Network.{Port}
use Rattle.tp_book.specs.declared.ports.port_parts.PortParts.{PortParts}

-- the port that the parts are
abbrev pub port_made : PortParts → Port
port_made p = record { pending = p.pending.items; in_base = p.in_base; outputs = p.outputs.items; out_base = p.out_base }
