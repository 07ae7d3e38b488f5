use Rattle.std.proofs.Common.{◌≡◌, ◌+◌, ◌*◌, ◌++◌, length, take}
use Rattle.tp_area.proofs.Lower.{u16_bytes, flat_map}
use Rattle.tp_area.proofs.encoding.numbers.put_u16s.Given as goal

abbrev pub invariant-loop-number : goal.invariant-loop-number
invariant-loop-number g l = record {
  numbers : l.out.items ≡ l.fn.out.items ++ flat_map u16_bytes (take l.number-index l.numbers);
  count : length l.out.items ≡ length l.fn.out.items + 2 * l.number-index;
}
