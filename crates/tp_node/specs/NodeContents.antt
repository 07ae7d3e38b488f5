-- What a node holds.
use Rattle.std.specs.Prelude.{ℕ, Bool, List, Option, Some, None}
use Rattle.tp_node.specs.Lower.{option_map, Kept, NodeState}
use Rattle.tp_node.specs.declared.head.Head.{Head}
use Rattle.tp_node.specs.StateWith.{state_with}

-- what contracts see of a node:
-- - the node as it is;
-- - while it is frozen, the node as it was at the freeze;
-- - of each page of its memory, whether both share it;
-- - how many frames there are for the pages that they don't share
pub record NodeContents : Type 0 where
  pub live : NodeState
  pub frozen : Option NodeState
  pub shared : List Bool
  pub spare : ℕ

-- what its memory keeps beside the live bytes
abbrev pub memory_kept : NodeContents → Kept
memory_kept node = record { frozen = option_map (λ kept. kept.memory) node.frozen; shared = node.shared; spare = node.spare }

-- the frozen node, whose head and memory are kept together
abbrev pub frozen_state : Option Head → Option (List ℕ) → Option NodeState
frozen_state None memory = None
frozen_state (Some head) None = None
frozen_state (Some head) (Some memory) = Some (state_with head memory)
