-- An alternative of two branches: one waits for a byte of link 0, the other for nobody.
use Rattle.std.specs.Prelude.{ℕ, List, [], ◌∷◌, Some}
use Rattle.tp_law_machine.specs.Lower.{Queue, BadAddress, Idle, Enabled, NodeState}
use Rattle.tp_law_machine.specs.Start.{regs, queue, resting, running, blank, with_bytes, start_word, inputs, node}

-- `alt`, `ldl 1`, `ldc 1`, `enbc`, `ldc 1`, `enbs`, `altwt`, and then `ldc 1`, `ldc 0`, `diss`, `stl 2`, `ldl 1`, `ldc 1`,
-- `ldc 5`, `disc`, `stl 3`: what each branch says is stored.
abbrev pub alternative : List ℕ
alternative =
    0x24 ∷ 0xF3 ∷ 0x71 ∷ 0x41 ∷ 0x24 ∷ 0xF8 ∷ 0x41 ∷ 0x24 ∷ 0xF9 ∷ 0x24 ∷ 0xF4 ∷
    0x41 ∷ 0x40 ∷ 0x23 ∷ 0xF0 ∷ 0xD2 ∷ 0x71 ∷ 0x41 ∷ 0x45 ∷ 0x22 ∷ 0xFF ∷ 0xD3 ∷ []

-- link 0 holds a byte that came before; its input word is in the first local word
abbrev pub choosing : NodeState
choosing = record (node (running 0x8000_0100 0x8000_0200) (start_word 0x8000_0204 0x8000_0010 (with_bytes 0x8000_0100 alternative blank))) {
  inputs = inputs (Idle (Some 0x5A));
}

-- After `altwt` no branch is chosen, and the alternative is ready.
abbrev pub may_choose : NodeState
may_choose = record choosing {
  cpu = record (running 0x8000_010B 0x8000_0200) { regs = regs 1 1 0; slice = 7 };
  memory = start_word 0x8000_0200 0xFFFF_FFFF (start_word 0x8000_01F4 0x8000_0003 choosing.memory);
}

-- The branch that waits for nobody is chosen, and the other one is not.
abbrev pub has_chosen : NodeState
has_chosen = record choosing {
  cpu = record (running 0x8000_0116 0x8000_0200) { regs = regs 1 0x8000_0010 0x8000_0010; slice = 16 };
  memory =
      start_word 0x8000_0200 0
      (start_word 0x8000_0208 1
      (start_word 0x8000_020C 0
      (start_word 0x8000_01F4 0x8000_0003 choosing.memory)));
}

-- A process waits for a byte of link 0, with the given processes in its queue.
abbrev pub hears : Queue → NodeState
hears low = record (node (record resting { low = low }) (start_word 0x8000_01F4 0x8000_0002 blank)) { inputs = inputs (Enabled 0x8000_0201) }

-- The byte is held and the alternative is ready. Its process is after the last one of the queue; or the last one's word is outside memory,
-- so the queue stays and the node halts.
abbrev pub has_heard : NodeState
has_heard = record (hears (queue 0x8000_0300 0x8000_0200)) {
  memory = start_word 0x8000_01F4 0x8000_0003 (start_word 0x8000_02F8 0x8000_0200 blank);
  inputs = inputs (Idle (Some 9));
}

abbrev pub cannot_queue : NodeState
cannot_queue = record (hears (queue 0x8000_0300 0x300)) {
  cpu = record resting { low = queue 0x8000_0300 0x300; halt = Some BadAddress };
  memory = start_word 0x8000_01F4 0x8000_0003 blank;
  inputs = inputs (Idle (Some 9));
}
