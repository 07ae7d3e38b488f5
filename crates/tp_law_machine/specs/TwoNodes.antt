-- A snapshot of two nodes, with a byte on its way from the one to the other. Link 0 of node 0 is wired to link 0 of node 1, and link 3 of
-- node 0 to port 0.
use Rattle.std.specs.Prelude.{List, [], ◌∷◌, replicate, None, Some}
use Rattle.tp_law_machine.specs.Lower.{Link, AtPort, Data, Idle, Run, Take, NodeState, Network, Topology, network_of, fresh_port, MarkedNetwork, Act, Begin, Record, Journal, Close, Trim}
use Rattle.tp_law_machine.specs.Start.{resting, blank, inputs, node}
use Rattle.tp_law_machine.specs.Transfers.{sending_node, awaits}

abbrev pub two_nodes : Topology
two_nodes = record {
  pages = 4 ∷ 4 ∷ [];
  ports = 1;
  wires = Some (Link 1 0) ∷ None ∷ None ∷ Some (AtPort 0) ∷ Some (Link 0 0) ∷ None ∷ None ∷ None ∷ Some (Link 0 3) ∷ [];
}

abbrev pub silent : NodeState
silent = node resting blank

abbrev pub two_before : Network NodeState
two_before = network_of two_nodes (sending_node ∷ silent ∷ []) (replicate 9 []) (fresh_port ∷ [])

-- Node 0 sends a byte. A snapshot begins; node 1 records, and then takes the byte; node 0 records; and each line with a wire is closed.
-- Then the book is trimmed to the cut.
abbrev pub one_snapshot : List Act
one_snapshot =
    Journal (Run 0 3) ∷ Begin ∷ Record 1 ∷ Journal (Take 0 (Data 0x41)) ∷ Record 0 ∷ Close 8 ∷ Close 4 ∷ Close 0 ∷ Close 3 ∷ Trim ∷ []

-- In the cut the byte is on its line. Only one entry is outside the cut: node 1 takes the byte.
abbrev pub cut_network : Network NodeState
cut_network = network_of two_nodes (awaits ∷ silent ∷ []) ((Data 0x41 ∷ []) ∷ replicate 8 []) (fresh_port ∷ [])

abbrev pub two_after : Network NodeState
two_after = network_of two_nodes (awaits ∷ record silent { inputs = inputs (Idle (Some 0x41)) } ∷ []) (replicate 9 []) (fresh_port ∷ [])

abbrev pub book_after : MarkedNetwork NodeState
book_after = record { start = cut_network; entries = Take 0 (Data 0x41) ∷ []; live = two_after; snapshot = None; frozen = [] }
