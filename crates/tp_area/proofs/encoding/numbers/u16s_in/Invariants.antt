-- The numbers that were read, and those in the rest, are all.
use Rattle.std.proofs.Common.{◌≡◌, ◌*◌, ◌≤◌, ◌++◌, length, ◌-◌}
use Rattle.tp_model.specs.Head.{u16s_at}
use Rattle.tp_area.proofs.encoding.numbers.u16s_in.Given as goal

abbrev pub invariant-loop : goal.invariant-loop
invariant-loop g l = record {
  read : l.numbers.items ++ u16s_at (l.count - l.counter) l.rest ≡ u16s_at l.count l.bytes;
  count : length l.numbers.items ≡ l.counter;
  there : 2 * (l.count - l.counter) ≤ length l.rest;
}
