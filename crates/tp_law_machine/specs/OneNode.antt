-- A network of one node, whose link 0 is wired to port 0.
use Rattle.std.specs.Prelude.{List, [], ◌∷◌, None, Some}
use Rattle.tp_law_machine.specs.Lower.{Link, AtPort, Data, Ack, Entry, Run, Take, NodeState, Network, Topology, network_of, fresh_port}
use Rattle.tp_law_machine.specs.Transfers.{sending_node, jumps}

abbrev pub one_node : Topology
one_node = record { pages = 4 ∷ []; ports = 1; wires = Some (AtPort 0) ∷ None ∷ None ∷ None ∷ Some (Link 0 0) ∷ [] }

-- the network before its first entry, when the node is about to send a byte
abbrev pub one_before : Network NodeState
one_before = network_of one_node (sending_node ∷ []) ([] ∷ [] ∷ [] ∷ [] ∷ [] ∷ []) (fresh_port ∷ [])

-- the node sends it, the host takes it, the node hears of that, and goes on
abbrev pub one_byte : List Entry
one_byte = Run 0 3 ∷ Take 0 (Data 0x41) ∷ Take 4 Ack ∷ Run 0 16 ∷ []

abbrev pub one_after : Network NodeState
one_after = network_of one_node (jumps 15 ∷ []) ([] ∷ [] ∷ [] ∷ [] ∷ [] ∷ []) (record fresh_port { outputs = 0x41 ∷ [] } ∷ [])
