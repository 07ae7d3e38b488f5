-- Two processes of one node and a channel between them.
use Rattle.std.specs.Prelude.{ℕ, List, [], ◌∷◌}
use Rattle.tp_model.specs.NodeState.{NodeState}
use Rattle.tp_law_machine.specs.Start.{regs, queue, running, blank, with_bytes, start_word, node}

-- One process sends the four bytes at 80000310 on the channel 80000300: `mint`, `ldnlp C4`, `mint`, `ldnlp C0`,
-- `ldc 4`, `out`. The other one gets them at 80000320: `mint`, `ldnlp C8`, `mint`, `ldnlp C0`, `ldc 4`, `in`.
abbrev pub sending : List ℕ
sending = 0x24 ∷ 0xF2 ∷ 0x2C ∷ 0x54 ∷ 0x24 ∷ 0xF2 ∷ 0x2C ∷ 0x50 ∷ 0x44 ∷ 0xFB ∷ []

abbrev pub getting : List ℕ
getting = 0x24 ∷ 0xF2 ∷ 0x2C ∷ 0x58 ∷ 0x24 ∷ 0xF2 ∷ 0x2C ∷ 0x50 ∷ 0x44 ∷ 0xF7 ∷ []

abbrev pub apart_memory : List ℕ
apart_memory =
    with_bytes 0x8000_0100 sending
    (with_bytes 0x8000_0140 getting
    (start_word 0x8000_01FC 0x8000_0100
    (start_word 0x8000_027C 0x8000_0140
    (start_word 0x8000_0300 0x8000_0000
    (with_bytes 0x8000_0310 (1 ∷ 2 ∷ 3 ∷ 4 ∷ []) blank)))))

-- the sender runs first, or the other one does
abbrev pub sender_first : NodeState
sender_first = node (record (running 0x8000_0100 0x8000_0200) { low = queue 0x8000_0280 0x8000_0280 }) apart_memory

abbrev pub getter_first : NodeState
getter_first = node (record (running 0x8000_0140 0x8000_0280) { low = queue 0x8000_0200 0x8000_0200 }) apart_memory

-- The bytes have arrived, the first comer is in the queue and the second one goes on. The first comer's pointer and instruction pointer are
-- below its workspace.
abbrev pub sender_waited : NodeState
sender_waited = node
    (record (running 0x8000_014A 0x8000_0280) { regs = regs 4 0x8000_0300 0x8000_0320; low = queue 0x8000_0200 0x8000_0200; slice = 6 })
    (with_bytes 0x8000_0320 (1 ∷ 2 ∷ 3 ∷ 4 ∷ [])
    (start_word 0x8000_01F4 0x8000_0310
    (start_word 0x8000_01FC 0x8000_010A apart_memory)))

abbrev pub getter_waited : NodeState
getter_waited = node
    (record (running 0x8000_010A 0x8000_0200) { regs = regs 4 0x8000_0300 0x8000_0310; low = queue 0x8000_0280 0x8000_0280; slice = 6 })
    (with_bytes 0x8000_0320 (1 ∷ 2 ∷ 3 ∷ 4 ∷ [])
    (start_word 0x8000_0274 0x8000_0320
    (start_word 0x8000_027C 0x8000_014A apart_memory)))
