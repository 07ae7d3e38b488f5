-- Processes of one node: an interrupt, a loop.
use Rattle.std.specs.Prelude.{ℕ, [], ◌∷◌}
use Rattle.tp_law_machine.specs.Lower.{Regs, NodeState}
use Rattle.tp_law_machine.specs.Start.{regs, queue, running, blank, with_bytes, start_word, node}

-- A low process runs a high one, whose descriptor is in its first local word, by `ldl 1` and `runp`. The high one has
-- one instruction, `stopp`.
abbrev pub about_to_run_another : NodeState
about_to_run_another = node (running 0x8000_0100 0x8000_0200)
    (start_word 0x8000_02FC 0x8000_0180
    (start_word 0x8000_0204 0x8000_0300
    (with_bytes 0x8000_0180 (0x21 ∷ 0xF5 ∷ [])
    (with_bytes 0x8000_0100 (0x71 ∷ 0x23 ∷ 0xF9 ∷ []) blank))))

-- The low process is past its `runp`, with its register A as before, and the high process is past its `stopp`. Of what was kept of the low
-- process only its descriptor is gone from memory.
abbrev pub has_run_another : NodeState
has_run_another = record about_to_run_another {
  cpu = record (running 0x8000_0103 0x8000_0200) { regs = regs 0x8000_0300 0 0; high = queue 0x8000_0000 0x8000_0300; slice = 2 };
  memory =
      start_word 0x8000_0030 0x8000_0103
      (start_word 0x8000_0034 0x8000_0300
      (start_word 0x8000_02FC 0x8000_0182 about_to_run_another.memory));
}

-- `lend` of a loop that began 10 bytes before it: the words at 80000240 are its index and its count
abbrev pub loop_regs : Regs
loop_regs = regs 10 0x8000_0240 0

abbrev pub at_loop_end : ℕ → ℕ → NodeState
at_loop_end index count = node (record (running 0x8000_010E 0x8000_0200) { regs = loop_regs })
    (start_word 0x8000_0240 index (start_word 0x8000_0244 count (with_bytes 0x8000_010E (0x22 ∷ 0xF1 ∷ []) blank)))

-- that node after its `lend`, at some instruction
abbrev pub after_loop_end : ℕ → ℕ → ℕ → NodeState
after_loop_end iptr index count = record (at_loop_end index count) {
  cpu = record (running iptr 0x8000_0200) { regs = loop_regs; slice = 1 };
}
