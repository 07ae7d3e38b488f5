-- Messages on link 0.
use Rattle.std.specs.Prelude.{ℕ, List, [], ◌∷◌, None}
use Rattle.tp_law_machine.specs.Lower.{NoOutput, Waits, InEnd, Idle, Inputs, NodeState}
use Rattle.tp_law_machine.specs.Start.{regs, queue, resting, running, blank, with_bytes, start_word, transfer, outputs, inputs, node}

-- A low process sends the byte 41 on link 0, and then jumps to where it is: `ldc MostNeg`, `ldc 41`, `outbyte`, `j -2`.
abbrev pub byte_program : List ℕ
byte_program = 0x27 ∷ 0x2F ∷ 0x2F ∷ 0x2F ∷ 0x2F ∷ 0x2F ∷ 0x6F ∷ 0x40 ∷ 0x24 ∷ 0x41 ∷ 0xFE ∷ 0x60 ∷ 0x0E ∷ []

abbrev pub sending_node : NodeState
sending_node = node (running 0x8000_0100 0x8000_0200) (with_bytes 0x8000_0100 byte_program blank)

-- The byte is out, and its acknowledge hasn't come.
abbrev pub awaits : NodeState
awaits = record sending_node {
  cpu = record resting { slice = 3 };
  memory = start_word 0x8000_0200 0x41 (start_word 0x8000_01FC 0x8000_010B sending_node.memory);
  outputs = outputs (Waits (transfer 0x8000_0201 0x8000_0200 1));
}

-- It has come, and the process is in the queue.
abbrev pub has_sent : NodeState
has_sent = record awaits { cpu = record resting { low = queue 0x8000_0200 0x8000_0200; slice = 3 }; outputs = outputs NoOutput }

-- The process runs and jumps, `count` jumps after it was dispatched; or its slice is over and it is in the queue again.
abbrev pub jumps : ℕ → NodeState
jumps count = record has_sent {
  cpu = record (running 0x8000_010B 0x8000_0200) { low = queue 0x8000_0000 0x8000_0200; slice = count };
}

abbrev pub has_jumped : NodeState
has_jumped = record has_sent { cpu = record resting { low = queue 0x8000_0200 0x8000_0200; slice = 1024 } }

-- A low process is at `in` of `count` bytes from link 0 to 80000300, with this end at link 0.
abbrev pub gets : ℕ → InEnd → NodeState
gets count end = record (node (record (running 0x8000_0100 0x8000_0200) { regs = regs count 0x8000_0013 0x8000_0300 }) (with_bytes 0x8000_0100 (0xF7 ∷ []) blank)) {
  inputs = inputs end;
}

-- It has got one byte and goes on.
abbrev pub has_got_one : NodeState
has_got_one = record (gets 1 (Idle None)) {
  cpu = record (running 0x8000_0101 0x8000_0200) { regs = regs 1 0x8000_0013 0x8000_0300; slice = 1 };
  memory = start_word 0x8000_0300 7 (gets 1 (Idle None)).memory;
}

-- It has got the first of two bytes and waits for the second one; that has come too.
abbrev pub has_got_first : NodeState
has_got_first = record (gets 2 (Inputs (transfer 0x8000_0201 0x8000_0301 1))) {
  cpu = record resting { slice = 1 };
  memory = start_word 0x8000_0300 7 (start_word 0x8000_01FC 0x8000_0101 (gets 2 (Idle None)).memory);
}

abbrev pub has_got_both : NodeState
has_got_both = record (gets 2 (Idle None)) {
  cpu = record resting { low = queue 0x8000_0200 0x8000_0200; slice = 1 };
  memory = start_word 0x8000_0300 0x907 (start_word 0x8000_01FC 0x8000_0101 (gets 2 (Idle None)).memory);
}

-- It has nothing to get and goes on.
abbrev pub has_got_none : InEnd → NodeState
has_got_none end = record (gets 0 end) {
  cpu = record (running 0x8000_0101 0x8000_0200) { regs = regs 0 0x8000_0013 0x8000_0300; slice = 1 };
}

-- A low process is at an output on this channel, by one byte of code, while another one waits at the output end of link 0.
abbrev pub puts : ℕ → ℕ → ℕ → NodeState
puts code channel wptr = record (node (record (running 0x8000_0100 wptr) { regs = regs 4 channel 0x8000_0300 }) (with_bytes 0x8000_0100 (code ∷ []) blank)) {
  outputs = outputs (Waits (transfer 0x8000_0281 0x8000_0300 1));
}
