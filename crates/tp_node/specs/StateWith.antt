-- A node's parts put together.
use Rattle.std.specs.Prelude.{ℕ, List}
use Rattle.tp_model.specs.NodeState.{NodeState}
use Rattle.tp_node.specs.declared.head.Head.{Head}

-- the node with this head and this memory
abbrev pub state_with : Head → List ℕ → NodeState
state_with head memory = record { cpu = head.cpu; memory = memory; outputs = head.outputs; inputs = head.inputs }
