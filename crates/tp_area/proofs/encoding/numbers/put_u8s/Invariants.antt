use Rattle.std.proofs.Common.{◌≡◌, ◌+◌, ◌++◌, length, take}
use Rattle.tp_area.proofs.encoding.numbers.put_u8s.Given as goal

abbrev pub invariant-loop-number : goal.invariant-loop-number
invariant-loop-number g l = record {
  numbers : l.out.items ≡ l.fn.out.items ++ take l.number-index l.numbers;
  count : length l.out.items ≡ length l.fn.out.items + l.number-index;
}
