-- What `waits --dot` prints: a graph for Graphviz, with each node and what it does, each wire, and an edge for each process that waits.
use Rattle.std.specs.Prelude.{ℕ, ◌+◌, ◌-◌, ◌*◌, Bool, true, false, if◌then◌else◌, List, [], ◌∷◌, ◌++◌, length, Option, Some, None, codes}
use Rattle.tp_views.specs.Lower.{decimal, receiver, WireEnd, Link, AtPort, fault_name}
use Rattle.tp_views.specs.Maps.{Maps, Row, rows_of, spot_text}
use Rattle.tp_views.specs.Scene.{Seen}
use Rattle.tp_views.specs.Sums.{why_name}
use Rattle.tp_views.specs.Waiting.{is_first, links_of}
use Rattle.tp_views.specs.Waits.{deed_name, since_part}
use Rattle.tp_views.specs.declared.waits.scene.Doing.{Doing}
use Rattle.tp_views.specs.declared.waits.scene.Doing.TheVariants.{Halted, Runs, Rests}
use Rattle.tp_views.specs.declared.waits.scene.NodeSeen.{NodeSeen}
use Rattle.tp_views.specs.declared.waits.waiting.LinkWaits.{LinkWaits}
use Rattle.tp_views.specs.declared.waits.waiting.Wait.{Wait}
use Rattle.tp_views.specs.declared.waits.why.Reason.{Reason}
use Rattle.tp_views.specs.declared.waits.why.Reason.TheVariants.{UnderWay, Halted as OtherHalted, Runs as OtherRuns, BothSend, BothInput, Elsewhere, Full, NoInput, NoWire}

-- ## A node and its wires

-- what a node does
abbrev pub doing_label : Doing → List ℕ
doing_label (Halted fault at) = codes "halted " ++ fault_name fault
doing_label Runs = codes "runs"
doing_label Rests = codes "rests"

abbrev pub node_line : ℕ → Doing → List ℕ
node_line i doing = (codes "  node" ++ (decimal i ++ (codes " [label=\"" ++ (decimal i ++ codes " ")))) ++ (doing_label doing ++ codes "\"];\n")

-- what the end of a wire is called
abbrev pub end_name : Option WireEnd → List ℕ
end_name None = codes "nobody"
end_name (Some (Link j k)) = codes "node" ++ decimal j
end_name (Some (AtPort p)) = codes "port" ++ decimal p

abbrev pub wire_line : ℕ → Option WireEnd → List ℕ
wire_line i other = (codes "  node" ++ (decimal i ++ codes " -> ")) ++ (end_name other ++ codes " [dir=none color=gray];\n")

-- the wire at link k of node i, if that is its first end
abbrev pub wire_part : Seen → ℕ → ℕ → List ℕ
wire_part s i k =
    if is_first (length s.nodes) (4 * i + k) (receiver s.wires (4 * i + k)) then wire_line i (receiver s.wires (4 * i + k)) else []

abbrev pub wires_of : Seen → ℕ → List ℕ
wires_of s i = wire_part s i 0 ++ (wire_part s i 1 ++ (wire_part s i 2 ++ wire_part s i 3))

-- ## A process that waits

-- nobody in the network can end its waiting
abbrev pub is_ended : Reason → Bool
is_ended UnderWay = false
is_ended OtherRuns = false
is_ended Elsewhere = false
is_ended OtherHalted = true
is_ended BothSend = true
is_ended BothInput = true
is_ended Full = true
is_ended NoInput = true
is_ended NoWire = true

abbrev pub color_name : Reason → List ℕ
color_name why = if is_ended why then codes "red" else codes "black"

-- from its node to whom it waits for
abbrev pub edge_head : Wait → List ℕ
edge_head wait = (codes "  node" ++ (decimal wait.node ++ codes " -> ")) ++ end_name wait.other

-- its link, and what it does there
abbrev pub edge_deed : Wait → List ℕ
edge_deed wait =
    codes " [color=" ++ (color_name wait.why ++ (codes " label=\"" ++ (decimal wait.link ++ (codes " " ++ deed_name wait.waiter.deed))))

-- these, since when it waits, and why
abbrev pub edge_label : Wait → List ℕ
edge_label wait = edge_deed wait ++ (since_part wait.since ++ (codes ": " ++ why_name wait.why))

-- the instruction in which it waits, which the map's rows name
abbrev pub spot_label : List Row → Option ℕ → List ℕ
spot_label rows None = []
spot_label rows (Some at) = spot_text (codes ",") rows (at - 1)

abbrev pub edge_line : List Row → Wait → List ℕ
edge_line rows wait = edge_head wait ++ (edge_label wait ++ (spot_label rows wait.waiter.resumes ++ codes "\"];\n"))

abbrev pub edge_part : List Row → Option Wait → List ℕ
edge_part rows None = []
edge_part rows (Some wait) = edge_line rows wait

abbrev pub edges_at : List Row → LinkWaits → List ℕ
edges_at rows link = edge_part rows link.output ++ edge_part rows link.input

abbrev pub edges_of : List Row → List LinkWaits → List ℕ
edges_of rows [] = []
edges_of rows (link ∷ links) = edges_at rows link ++ edges_of rows links

-- ## All

abbrev pub node_dot : Seen → List Row → ℕ → NodeSeen → List ℕ
node_dot s rows i own = node_line i own.doing ++ (wires_of s i ++ edges_of rows (links_of s i own))

abbrev pub nodes_dot : Seen → Maps → ℕ → List NodeSeen → List ℕ
nodes_dot s maps i [] = []
nodes_dot s maps i (own ∷ nodes) = node_dot s (rows_of maps i) i own ++ nodes_dot s maps (i + 1) nodes

-- All that is printed of a network, and of what maps say of addresses.
abbrev pub waits_dot : Seen → Maps → List ℕ
waits_dot s maps = codes "digraph network {\n  node [shape=box];\n" ++ (nodes_dot s maps 0 s.nodes ++ codes "}\n")
