-- the bytes so far are those from the first address on
use Rattle.std.proofs.Common.{◌≡◌, ◌≤◌, ◌+◌, ◌-◌, drop, length, take}
use Rattle.tp_model.specs.Memory.{offset}
use Rattle.tp_trace.proofs.looking.push_memory.Given as goal

abbrev pub invariant-loop-byte : goal.invariant-loop-byte
invariant-loop-byte l = record {
  place : offset l.at ≡ offset l.fn.from + length l.bytes.items;
  items : l.bytes.items ≡ take (length l.bytes.items) (drop (offset l.fn.from) l.node.live.memory);
  few : length l.bytes.items ≤ l.count;
}

abbrev pub decreases-loop-byte : goal.decreases-loop-byte
decreases-loop-byte l = l.count - length l.bytes.items
