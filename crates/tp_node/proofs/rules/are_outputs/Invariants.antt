use Rattle.std.proofs.Common.{◌≡◌, ℕ, List, length, drop}
use Rattle.tp_node.proofs.Lower.{list_all, is_out_end}
use Rattle.tp_node.proofs.rules.are_outputs.Given as goal

-- the ends that are left say what all say
abbrev pub invariant-loop-end : goal.invariant-loop-end
invariant-loop-end l =
    (memory : List ℕ) → length memory ≡ l.len → list_all (is_out_end memory) (drop l.end-index l.ends) ≡ list_all (is_out_end memory) l.ends
