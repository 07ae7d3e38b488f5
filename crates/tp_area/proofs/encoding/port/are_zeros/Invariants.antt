-- The bytes so far are 00.
use Rattle.std.proofs.Common.{◌≡◌, true, take}
use Rattle.std.specs.List.{list_all}
use Rattle.tp_area.specs.Ports.{is_zero}
use Rattle.tp_area.proofs.encoding.port.are_zeros.Given as goal

abbrev pub invariant-loop-byte : goal.invariant-loop-byte
invariant-loop-byte l = list_all is_zero (take l.byte-index l.bytes) ≡ true
