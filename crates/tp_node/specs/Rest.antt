-- What is left to do for a node.
use Rattle.std.specs.Prelude.{◌≡◌, ℕ, Bool, true, false, ◌&&◌, ◌==◌, Option, Some, None, if◌then◌else◌, is_some}
use Rattle.tp_node.specs.Lower.{word_at, NodeState, node_step, kept_at, not_process, State, Idle, High, Low}
use Rattle.tp_node.specs.declared.rest.Rest.{Rest}
use Rattle.tp_node.specs.declared.rest.Rest.TheVariants.{Halted, Quiet, Busy}

-- no process runs
abbrev pub is_idle : State → Bool
is_idle Idle = true
is_idle High = false
is_idle Low = false

-- a word that was read names no process
abbrev pub is_nobody : Option ℕ → Bool
is_nobody None = false
is_nobody (Some word) = word == not_process

-- No process runs, none is queued, and none was interrupted.
abbrev pub has_nobody : NodeState → Bool
has_nobody node =
    is_idle node.cpu.state && (node.cpu.high.front == not_process) && (node.cpu.low.front == not_process)
    && is_nobody (word_at node.memory kept_at)

-- what is left to do for a node by itself
abbrev pub rest_of : NodeState → Rest
rest_of node = if is_some node.cpu.halt then Halted else if has_nobody node then Quiet else Busy

-- A node for which nothing is left to do has no step.
abbrev pub LeavesNoStep : Rest → NodeState → Type 0
LeavesNoStep Halted node = node_step node ≡ None
LeavesNoStep Quiet node = node_step node ≡ None
LeavesNoStep Busy node = Unit {0}
