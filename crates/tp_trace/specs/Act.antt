-- What the next step of a node does, if it has one.
use Rattle.std.specs.Prelude.{ℕ, ◌==◌, if◌then◌else◌, List, drop, Option, Some, None}
use Rattle.tp_trace.specs.Lower.{decoded, offset, word_at, NodeState, kept_at, not_process, Cpu, State, Idle, High, Low}
use Rattle.tp_trace.specs.declared.act.Act.{Act}
use Rattle.tp_trace.specs.declared.act.Act.TheVariants.{Instruction, Interrupt, DispatchHigh, Restore, DispatchLow}

-- a process that runs makes the instruction that its pointer leads to
abbrev pub instruction_act : Cpu → List ℕ → Act
instruction_act cpu memory = Instruction (decoded (drop (offset cpu.iptr) memory))

-- a low process that was interrupted goes on before another one
abbrev pub low_act : Option ℕ → Act
low_act None = Restore
low_act (Some kept) = if kept == not_process then DispatchLow else Restore

-- with nothing to run, a high process comes first
abbrev pub idle_act : Cpu → List ℕ → Act
idle_act cpu memory = if cpu.high.front == not_process then low_act (word_at memory kept_at) else DispatchHigh

abbrev pub act_in : State → Cpu → List ℕ → Act
act_in Idle cpu memory = idle_act cpu memory
act_in High cpu memory = instruction_act cpu memory
act_in Low cpu memory = if cpu.high.front == not_process then instruction_act cpu memory else Interrupt

abbrev pub act_of : NodeState → Act
act_of node = act_in node.cpu.state node.cpu node.memory
