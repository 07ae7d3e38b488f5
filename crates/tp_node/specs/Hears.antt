-- What a call that tells a process of a token answers and leaves.
use Rattle.std.specs.Prelude.{◌≡◌, ℕ, List, Option, Some, Result, Ok, Err}
use Rattle.tp_node.specs.Lower.{NodeState, Cpu}
use Rattle.tp_node.specs.declared.fault.NoFrame.{NoFrame}

-- a node with another processor and another memory
abbrev pub with_both : Cpu → List ℕ → NodeState → NodeState
with_both cpu memory node = record node { cpu = cpu; memory = memory }

-- The change is that of the definition, from the memory that the token's own write leaves; or nothing has changed, and `cause` is true.
abbrev pub Hears : (NodeState → NodeState) → Option (List ℕ) → Type 0 → Cpu → List ℕ → Result (Unit {0}) NoFrame → Cpu → List ℕ → Type 0
Hears told written cause cpu was (Ok u) after now =
    (node : NodeState) (memory : List ℕ) → written ≡ Some memory → told (with_both cpu memory node) ≡ with_both after now node
Hears told written cause cpu was (Err e) after now = cause × (after ≡ cpu) × (now ≡ was)
