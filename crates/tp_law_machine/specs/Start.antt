-- Nodes to begin worked examples with: four pages of memory, idle links, empty queues.
use Rattle.std.specs.Prelude.{ℕ, ◌+◌, false, List, [], ◌∷◌, ◌++◌, length, take, drop, None}
use Rattle.tp_law_machine.specs.Lower.{Regs, Cpu, Queue, Low, Transfer, OutEnd, NoOutput, InEnd, NoInput, not_process, zeros, offset, set_word, NodeState}
use Rattle.tp_model.specs.declared.processor.State.TheVariants.{Idle}

-- three registers without Error, a queue from its first process to its last one, and one without any
abbrev pub regs : ℕ → ℕ → ℕ → Regs
regs a b c = record { a = a; b = b; c = c; error = false }

abbrev pub queue : ℕ → ℕ → Queue
queue front back = record { front = front; back = back }

abbrev pub no_queue : Queue
no_queue = queue not_process not_process

-- a processor with nothing to run, and one that runs a low process
abbrev pub resting : Cpu
resting = record {
  iptr = 0;
  wptr = 0;
  regs = regs 0 0 0;
  high = no_queue;
  low = no_queue;
  state = Idle;
  slice = 0;
  halt = None;
}

abbrev pub running : ℕ → ℕ → Cpu
running iptr wptr = record resting { iptr = iptr; wptr = wptr; state = Low }

-- memory with bytes from an address on, and with a word at one
abbrev pub with_bytes : ℕ → List ℕ → List ℕ → List ℕ
with_bytes address bytes memory =
    take (offset address) memory ++ bytes ++ drop (offset address + length bytes) memory

abbrev pub start_word : ℕ → ℕ → List ℕ → List ℕ
start_word address word memory = set_word memory (offset address) word

-- memory of four pages in which no interrupted process is kept, and all else is 0
abbrev pub blank : List ℕ
blank = start_word 0x8000_002C not_process (zeros 4096)

-- `left` bytes from `pointer` on, which a process has still to send or to get
abbrev pub transfer : ℕ → ℕ → ℕ → Transfer
transfer process pointer left = record { process = process; pointer = pointer; left = left }

-- links; only the first may be at work
abbrev pub outputs : OutEnd → List OutEnd
outputs end = end ∷ NoOutput ∷ NoOutput ∷ NoOutput ∷ []

abbrev pub inputs : InEnd → List InEnd
inputs end = end ∷ NoInput None ∷ NoInput None ∷ NoInput None ∷ []

-- a node with idle links
abbrev pub node : Cpu → List ℕ → NodeState
node cpu memory = record { cpu = cpu; memory = memory; outputs = outputs NoOutput; inputs = inputs (NoInput None) }
