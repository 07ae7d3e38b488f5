-- A byte each way on one wire: on the line that the node sends, Data follows an Ack.
use Rattle.std.specs.Prelude.{List, [], ◌∷◌}
use Rattle.tp_law_machine.specs.Lower.{Data, Ack, Waits, Entry, Run, Take, HostIn, NodeState, Network, network_of, fresh_port}
use Rattle.tp_law_machine.specs.Start.{resting, running, blank, with_bytes, start_word, transfer, outputs, node}
use Rattle.tp_law_machine.specs.OneNode.{one_node}

-- A process gets one byte of link 0 and sends another one there: `ldlp 0`, `mint`, `ldnlp 4`, `ldc 1`, `in`, and then `mint`, `ldc 41`,
-- `outbyte`.
abbrev pub answers : NodeState
answers = node (running 0x8000_0100 0x8000_0200)
    (with_bytes 0x8000_0100 (0x10 ∷ 0x24 ∷ 0xF2 ∷ 0x54 ∷ 0x41 ∷ 0xF7 ∷ 0x24 ∷ 0xF2 ∷ 0x24 ∷ 0x41 ∷ 0xFE ∷ []) blank)

abbrev pub has_answered : NodeState
has_answered = record answers {
  cpu = record resting { slice = 8 };
  memory = start_word 0x8000_0200 0x41 (start_word 0x8000_01FC 0x8000_010B answers.memory);
  outputs = outputs (Waits (transfer 0x8000_0201 0x8000_0200 1));
}

abbrev pub question_before : Network NodeState
question_before = network_of one_node (answers ∷ []) ([] ∷ [] ∷ [] ∷ [] ∷ [] ∷ []) (fresh_port ∷ [])

-- The host hands a byte in. The node holds it, and acknowledges and answers it in one run. The host takes first the Ack and then the
-- answer.
abbrev pub question : List Entry
question = HostIn 0 0x61 ∷ Take 4 (Data 0x61) ∷ Run 0 8 ∷ Take 0 Ack ∷ Take 0 (Data 0x41) ∷ []

abbrev pub question_after : Network NodeState
question_after = network_of one_node (has_answered ∷ []) ([] ∷ [] ∷ [] ∷ [] ∷ (Ack ∷ []) ∷ []) (record fresh_port { in_base = 1; outputs = 0x41 ∷ [] } ∷ [])
