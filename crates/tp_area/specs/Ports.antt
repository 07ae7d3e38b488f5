-- The record of a port, whether it is valid or not, and the port that it says.
use Rattle.std.specs.Prelude.{ℕ, ◌+◌, ◌-◌, Bool, ◌&&◌, ◌==◌, nat_le, List, take, drop, bytes_eq}
use Rattle.tp_area.specs.Lower.{list_all, MAX_HELD, PORT_BYTES, u64_at, Port, is_port_of, port_at, port_bytes}
use Rattle.tp_area.specs.declared.encoding.port.PortRecord.{PortRecord}

-- the port that a record says
abbrev pub port_said : PortRecord → Port
port_said r = record { pending = r.pending.now; in_base = r.in_base; outputs = r.outputs.now; out_base = r.out_base }

-- the bytes begin with the record of a port of a cut of `base` entries
abbrev pub is_port_at : ℕ → List ℕ → Bool
is_port_at base bytes = bytes_eq (take PORT_BYTES bytes) (port_bytes (port_at bytes)) && is_port_of base (port_at bytes)

abbrev pub is_zero : ℕ → Bool
is_zero byte = byte == 0

-- the port's rules, if the record holds these numbers of bytes: what fills it up is 00, and its positions were reached
abbrev pub keeps_rules : ℕ → ℕ → ℕ → List ℕ → Bool
keeps_rules base held shown bytes =
    list_all is_zero (take (MAX_HELD - held) (drop (20 + held) bytes))
    && (list_all is_zero (drop (20 + MAX_HELD + shown) bytes)
    && (nat_le (u64_at bytes 0) base && nat_le (u64_at bytes 8 + shown) base))
