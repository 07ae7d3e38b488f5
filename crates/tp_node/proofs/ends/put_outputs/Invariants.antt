use Rattle.std.proofs.Common.{◌≡◌, ◌*◌, ◌++◌, take, drop}
use Rattle.tp_node.proofs.Lower.{flat_map, out_end_bytes}
use Rattle.tp_node.proofs.ends.put_outputs.Given as goal

-- the ends so far are before what was there
abbrev pub invariant-loop-i : goal.invariant-loop-i
invariant-loop-i l = l.out ≡ flat_map out_end_bytes (take l.i l.ends) ++ drop (16 * l.i) l.fn.out
