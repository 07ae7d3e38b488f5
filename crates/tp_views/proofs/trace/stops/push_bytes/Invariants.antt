use Rattle.std.proofs.Common.{◌≡◌, ◌++◌, string_bytes, drop}
use Rattle.tp_views.specs.Stops.{bytes_text}
use Rattle.tp_views.proofs.trace.stops.push_bytes.Given as goal

-- the bytes so far were appended
abbrev pub invariant-loop-byte : goal.invariant-loop-byte
invariant-loop-byte l = string_bytes l.text ++ bytes_text (drop l.byte-index l.bytes) ≡ string_bytes l.fn.text ++ bytes_text l.fn.bytes
