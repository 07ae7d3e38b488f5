use Rattle.std.proofs.Common.{◌≡◌, ℕ, List, length, drop}
use Rattle.tp_node.proofs.Lower.{list_all, is_in_end}
use Rattle.tp_node.proofs.rules.are_inputs.Given as goal

-- the ends that are left say what all say
abbrev pub invariant-loop-end : goal.invariant-loop-end
invariant-loop-end l =
    (memory : List ℕ) → length memory ≡ l.len → list_all (is_in_end memory) (drop l.end-index l.ends) ≡ list_all (is_in_end memory) l.ends
