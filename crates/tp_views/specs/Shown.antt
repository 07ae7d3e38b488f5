-- What `show` prints of a device: lines, or one line of JSON.
use Rattle.std.specs.Prelude.{ℕ, ◌+◌, Bool, false, true, if◌then◌else◌, List, [], ◌∷◌, ◌++◌, length, codes}
use Rattle.tp_views.specs.Lower.{decimal, NodeState, halt_byte, Port, Network}
use Rattle.tp_views.specs.Fields.{Field, Named, After, InJson, Words, Item, Number, fields_text}
use Rattle.tp_views.specs.declared.text.shown.Front.{Front}

-- the line of how many nodes and ports there are, and how many bytes an area has
abbrev pub head_line : ℕ → ℕ → ℕ → List ℕ
head_line nodes ports area =
    codes "nodes " ++ (decimal nodes ++ (codes " ports " ++ (decimal ports ++ (codes " area " ++ (decimal area ++ 10 ∷ [])))))

-- the number of an area
abbrev pub area_number : Bool → ℕ
area_number second = if second then 1 else 0

-- how many bytes an area has, which a line says before; of the open area which one it is, its generation, how many entries are in its cut and in its
-- groups, and the number of the next entry
abbrev pub open_fields : Front → List Field
open_fields front =
    InJson (codes "],\"area\":") (Number front.area) ∷ After (codes "open ") (codes ",\"open\":") (Number (area_number front.second)) ∷ Named (codes "generation") (Number front.generation)
    ∷ Named (codes "base") (Number front.base) ∷ Named (codes "entries") (Number front.entries) ∷ Named (codes "next") (Number front.next)
    ∷ Words (codes "\n") (codes "}\n") ∷ []

-- a node: its halt code
abbrev pub node_fields : ℕ → NodeState → List Field
node_fields number node =
    Item (codes "node") number ∷ After (codes " halt ") (codes "{\"halt\":") (Number (halt_byte node.cpu.halt)) ∷ Words (codes "\n") (codes "}") ∷ []

abbrev pub nodes_text : Bool → ℕ → List NodeState → List ℕ
nodes_text json number [] = []
nodes_text json number (node ∷ nodes) = fields_text json (node_fields number node) ++ nodes_text json (number + 1) nodes

-- A port: how many of its inputs nodes have taken, and how many are pending; how many of its outputs are confirmed, and how many aren't.
abbrev pub port_fields : ℕ → Port → List Field
port_fields number port =
    Item (codes "port") number ∷ After (codes " taken ") (codes "{\"taken\":") (Number port.in_base) ∷ Named (codes "pending") (Number (length port.pending))
    ∷ Named (codes "confirmed") (Number port.out_base) ∷ Named (codes "unconfirmed") (Number (length port.outputs)) ∷ Words (codes "\n") (codes "}") ∷ []

abbrev pub ports_text : Bool → ℕ → List Port → List ℕ
ports_text json number [] = []
ports_text json number (port ∷ ports) = fields_text json (port_fields number port) ++ ports_text json (number + 1) ports

-- All that is shown of a device, as JSON or not, by its front and its network after the last entry.
abbrev pub shown_text : Bool → Front → Network NodeState → List ℕ
shown_text false front now =
    head_line (length now.nodes) (length now.ports) front.area
    ++ (fields_text false (open_fields front) ++ (nodes_text false 0 now.nodes ++ ports_text false 0 now.ports))
shown_text true front now =
    codes "{\"nodes\":[" ++ (nodes_text true 0 now.nodes ++ (codes "],\"ports\":[" ++ (ports_text true 0 now.ports ++ fields_text true (open_fields front))))

-- what is printed of a device that was recovered
abbrev pub next_line : ℕ → List ℕ
next_line next = codes "next " ++ (decimal next ++ 10 ∷ [])
