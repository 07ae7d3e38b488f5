-- What a node's memory keeps, seen from the node.
use Rattle.std.proofs.Common.{◌≡◌, ℕ, List, Option, Some, None, is_some, refl, sym, true≢false}
use Rattle.tp_node.proofs.Lower.{option_map, NodeState}
use Rattle.tp_node.specs.declared.head.Head.{Head}
use Rattle.tp_node.specs.NodeContents.{frozen_state}

-- the memory of the frozen node, whose head and memory are kept together
pub kept_same : (head : Option Head) (memory : Option (List ℕ)) → is_some head ≡ is_some memory → option_map (λ (n : NodeState). n.memory) (frozen_state head memory) ≡ memory
kept_same None None same = refl
kept_same None (Some memory) same = absurd (true≢false (sym same))
kept_same (Some head) None same = absurd (true≢false same)
kept_same (Some head) (Some memory) same = refl
