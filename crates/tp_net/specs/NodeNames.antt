-- The names of a network's nodes.
use Rattle.std.specs.Prelude.{ℕ, List, [], map, Result, Ok, Err}
use Rattle.tp_net.specs.Lower.{lines, NetFault, Said, read_lines, nothing_said}

-- each node's name
abbrev pub names_said : Result Said NetFault → List (List ℕ)
names_said (Ok said) = map (λ node. node.0) said.nodes
names_said (Err fault) = []

-- The names of the nodes that a text declares, in the order of their numbers; none if a line has a fault.
unfoldable pub node_names : List ℕ → List (List ℕ)
node_names text = names_said (read_lines nothing_said 1 (lines text))
