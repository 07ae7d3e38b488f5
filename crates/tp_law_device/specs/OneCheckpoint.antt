-- A run with a checkpoint, computed: entries in the cut and outside it, and an Ack on a line of the cut.
use Rattle.std.specs.Prelude.{◌≡◌, ℕ, ◌-◌, false, List, [], ◌∷◌, ◌++◌, length, map, None, Ok}
use Rattle.tp_law_device.specs.Lower.{TwoAreas, Turns, Narrow, Data, Ack, Entry, Run, Take, GATE_OPEN, GATE_CLOSED, zeros, NodeState, image, Network, WholeCut, Act, Begin, Record, Journal, Close, areas_of_length, head_bytes, front_bytes, fresh_port, Opened, held_of, network_of, verdict, World, Event, HasCut, KeptRun, one_node, one_before, one_after, sending_node, awaits}
use Rattle.tp_law_device.specs.Checkpoints.{Switches}
use Rattle.tp_law_device.specs.FormattedWorld.{formatted_world, WasFormatted}

-- areas of 16,384 bytes, and a device that was formatted for the network of one node in them
abbrev pub one_areas : TwoAreas
one_areas = areas_of_length Narrow 16384

abbrev pub first_content : List ℕ
first_content = front_bytes one_node 1 Turns 0 one_before

abbrev pub one_device : List ℕ
one_device =
    head_bytes Narrow one_node one_areas
    ++ (GATE_OPEN ∷ (first_content ++ (GATE_CLOSED ∷ (zeros (one_areas.length - 2 - length first_content) ++ (GATE_CLOSED ∷ zeros (one_areas.length - 1))))))

-- The node sends a byte and the host takes it. A snapshot begins, the node records, and after that it takes the Ack and goes on.
abbrev pub inside : List Entry
inside = Run 0 3 ∷ Take 0 (Data 0x41) ∷ []

abbrev pub outside_checkpoint : List Entry
outside_checkpoint = Take 4 Ack ∷ Run 0 16 ∷ []

abbrev pub before_snapshot : List Act
before_snapshot = map Journal inside

abbrev pub snapshot : List Act
snapshot = Begin ∷ Record 0 ∷ Journal (Take 4 Ack) ∷ Close 4 ∷ Journal (Run 0 16) ∷ Close 0 ∷ []

-- in the cut the node waits for the Ack, which is on its line, and the byte is an output of the port
abbrev pub checkpoint_network : Network NodeState
checkpoint_network = network_of one_node (awaits ∷ []) ([] ∷ [] ∷ [] ∷ [] ∷ (Ack ∷ []) ∷ []) (record fresh_port { outputs = 0x41 ∷ [] } ∷ [])

-- the bytes that groups may fill in such an area
abbrev pub one_room : ℕ
one_room = 3862

-- From that device a run leads to a world in which a mark of 2 was read and the cut is whole. Each entry is made with room for it. The
-- world's device holds the first two entries in its first area, of generation 1. From there a run switches. The book is trimmed to the cut,
-- and the device opens as the second area, of generation 2. It holds the cut, of two entries, and the two entries outside it, which lead to
-- the network as it is.
pub record OneCheckpoint : Type 0 where
  pub formatted : WasFormatted one_node one_areas Turns (image sending_node ∷ []) one_before one_device
  pub events : List (Event NodeState)
  pub w : World NodeState
  pub run : KeptRun one_room (formatted_world one_before one_device) events w
  pub seen : w.seen ≡ 2 ∷ []
  pub journal : w.journal ≡ inside ++ outside_checkpoint
  pub entries : w.net.entries ≡ inside ++ outside_checkpoint
  pub live : w.net.live ≡ one_after
  pub first : Opened
  pub reads : verdict w.disk.bytes ≡ Ok first
  pub held : held_of first ≡ record { network = one_before; entries = inside; base = 0 }
  pub in_first : (first.second ≡ false) × (first.generation ≡ 1)
  pub cut : WholeCut
  pub has : HasCut w.net cut (awaits ∷ [])
  pub switches : Switches w first cut (awaits ∷ []) 2 Turns
  pub book : switches.last.net ≡ record { start = checkpoint_network; entries = outside_checkpoint; live = one_after; snapshot = None; frozen = [] }
  pub copy : held_of switches.opened ≡ record { network = checkpoint_network; entries = outside_checkpoint; base = 2 }
  pub now : switches.opened.now ≡ one_after
