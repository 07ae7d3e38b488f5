-- The head and the pages so far come after what was there.
use Rattle.std.proofs.Common.{◌≡◌, ◌*◌, ◌++◌, Some, take}
use Rattle.tp_replay.proofs.Lower.{image_head, NodeState, PAGE_BYTES}
use Rattle.tp_replay.proofs.image.put_frozen.Given as goal

abbrev pub invariant-loop-i : goal.invariant-loop-i
invariant-loop-i l = (kept : NodeState) → l.node.frozen ≡ Some kept → l.bytes.items ≡ l.fn.bytes.items ++ (image_head kept ++ take (PAGE_BYTES * l.i) kept.memory)
