-- A node for which nothing is left to do has no step.
use Rattle.std.proofs.Common.{◌≡◌, ℕ, Bool, true, false, ◌==◌, List, refl, Option, Some, None, is_some}
use Rattle.std.specs.Prelude.{◌&&◌}
use Rattle.tp_node.proofs.Lower.{and_parts, word_at, NodeState, node_step, Rests, kept_at, idle, in_state, step_of, not_process, Cpu, State, High, Low}
use Rattle.tp_model.specs.declared.processor.State.TheVariants.{Idle}
use Rattle.tp_node.specs.Rest.{has_nobody, is_idle, is_nobody}

idle_rests : (cpu : Cpu) (memory : List ℕ) (word : Option ℕ) → word_at memory kept_at ≡ word → is_nobody word ≡ true → (cpu.high.front == not_process) ≡ true → (cpu.low.front == not_process) ≡ true → idle cpu memory ≡ Rests
idle_rests cpu memory None at nobody high low = cc
idle_rests cpu memory (Some word) at nobody high low = rw (high, at, nobody, low) refl

state_rests : (state : State) (cpu : Cpu) (memory : List ℕ) → is_idle state ≡ true → idle cpu memory ≡ Rests → in_state state cpu memory ≡ Rests
state_rests Idle cpu memory is rests = rests
state_rests High cpu memory is rests = cc
state_rests Low cpu memory is rests = cc

pub nobody_rests : (node : NodeState) → is_some node.cpu.halt ≡ false → has_nobody node ≡ true → node_step node ≡ None
unfolding node_step step_of
nobody_rests node goes nobody =
    let all = and_parts (is_idle node.cpu.state && (node.cpu.high.front == not_process) && (node.cpu.low.front == not_process)) (is_nobody (word_at node.memory kept_at)) nobody in
    let queues = and_parts (is_idle node.cpu.state && (node.cpu.high.front == not_process)) (node.cpu.low.front == not_process) all.0 in
    let state = and_parts (is_idle node.cpu.state) (node.cpu.high.front == not_process) queues.0 in
    rw (goes, state_rests node.cpu.state node.cpu node.memory state.0 (idle_rests node.cpu node.memory (word_at node.memory kept_at) refl all.1 state.1 queues.1)) refl
