-- Cuts that were read.
use Rattle.std.specs.Prelude.{ℕ, List, map, drop, Option, Result, Ok}
use Rattle.tp_recover.specs.Lower.{Token, OpenFault, WireEnd, nodes_in, lines_in, ports_in, Network, Port, NodeState, ◌>>=◌, port_made, Places}
use Rattle.tp_recover.specs.declared.area.cut.Cut.{Cut}
use Rattle.tp_recover.specs.Nodes.{live_node}

-- a network with `wires`
abbrev pub wired : List (Option WireEnd) → List NodeState → List (List Token) → List Port → Network NodeState
wired wires nodes lines ports = record { wires = wires; nodes = nodes; ports = ports; lines = lines }

-- the network of a cut, with `wires`
abbrev pub network_of_cut : List (Option WireEnd) → Cut → Network NodeState
network_of_cut wires cut = wired wires (map live_node cut.nodes.items) (map (λ line. line.items) cut.lines.items) (map port_made cut.ports.items)

-- three parts, one after the other
abbrev pub three : {A B C D : Type 0} → Result A OpenFault → Result B OpenFault → Result C OpenFault → (A → B → C → D) → Result D OpenFault
three first second third f = first >>= (λ x. second >>= (λ y. third >>= (λ z. Ok (f x y z))))

-- what is at `places` of a device: nodes with `pages` pages each, lines with `wires`, and `ports` ports
abbrev pub records_at : List ℕ → List (Option WireEnd) → ℕ → ℕ → Places → List ℕ → Result (Network NodeState) OpenFault
records_at pages wires ports base places bytes =
    three (nodes_in places.nodes pages (drop places.nodes bytes)) (lines_in places.lines wires (drop places.lines bytes))
    (ports_in base places.ports ports (drop places.ports bytes)) (wired wires)
