use Rattle.std.proofs.Common.{◌≡◌, ◌*◌, ◌++◌, take, drop}
use Rattle.tp_node.proofs.Lower.{flat_map, u32_bytes}
use Rattle.tp_node.proofs.head.put_words.Given as goal

-- the words so far are before what was there
abbrev pub invariant-loop-i : goal.invariant-loop-i
invariant-loop-i l = l.out ≡ flat_map u32_bytes (take l.i l.words) ++ drop (4 * l.i) l.fn.out
