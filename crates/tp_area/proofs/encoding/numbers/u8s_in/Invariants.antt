use Rattle.std.proofs.Common.{◌≡◌, take}
use Rattle.tp_area.proofs.encoding.numbers.u8s_in.Given as goal

abbrev pub invariant-loop-byte : goal.invariant-loop-byte
invariant-loop-byte g l = l.numbers.items ≡ take l.byte-index l.bytes
