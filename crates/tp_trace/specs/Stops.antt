-- What a stop goes by: the instruction that comes next, and bytes of memory.
use Rattle.std.specs.Prelude.{ℕ, List, take, drop, Option, Some, None}
use Rattle.tp_trace.specs.Lower.{offset, NodeState, Cpu, Fault}
use Rattle.tp_trace.specs.Act.{act_of}
use Rattle.tp_trace.specs.declared.act.Act.{Act}
use Rattle.tp_trace.specs.declared.act.Act.TheVariants.{Instruction, Interrupt, DispatchHigh, Restore, DispatchLow}

-- where the instruction is that comes next, if the processor hasn't halted
abbrev pub unless_halted : Option Fault → Cpu → Option ℕ
unless_halted None cpu = Some cpu.iptr
unless_halted (Some fault) cpu = None

abbrev pub instruction_in : Act → Cpu → Option ℕ
instruction_in (Instruction read) cpu = unless_halted cpu.halt cpu
instruction_in Interrupt cpu = None
instruction_in DispatchHigh cpu = None
instruction_in Restore cpu = None
instruction_in DispatchLow cpu = None

-- where the instruction is that a process makes next, if the next step is one
abbrev pub instruction_at : NodeState → Option ℕ
instruction_at node = instruction_in (act_of node) node.cpu

-- bytes of memory, as many from an address on as there are, up to `count`
abbrev pub memory_of : NodeState → ℕ → ℕ → List ℕ
memory_of node from count = take count (drop (offset from) node.memory)
