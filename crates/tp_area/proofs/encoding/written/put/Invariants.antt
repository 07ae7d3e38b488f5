use Rattle.std.proofs.Common.{◌≡◌, ◌++◌, take}
use Rattle.tp_area.proofs.encoding.written.put.Given as goal

abbrev pub invariant-loop-byte : goal.invariant-loop-byte
invariant-loop-byte g l = l.out.items ≡ l.fn.out.items ++ take l.byte-index l.bytes
