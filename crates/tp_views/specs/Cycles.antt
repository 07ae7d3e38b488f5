-- Which nodes wait for each other.
use Rattle.std.specs.Prelude.{ℕ, zero, suc, ◌+◌, ◌*◌, ◌/◌, ◌%◌, ◌^◌, ◌==◌, nat_lt, Bool, true, false, ◌&&◌, if◌then◌else◌, List, [], ◌∷◌, ◌++◌, map, length, get_or, is_some, Option, Some, None, bit_or, codes}
use Rattle.tp_views.specs.Lower.{decimal, receiver, WireEnd, Link, AtPort}
use Rattle.tp_views.specs.Scene.{Seen}
use Rattle.tp_views.specs.Why.{waiting_at, why}
use Rattle.tp_views.specs.declared.waits.scene.NodeSeen.{NodeSeen}
use Rattle.tp_views.specs.declared.waits.why.Reason.{Reason}
use Rattle.tp_views.specs.declared.waits.why.Reason.TheVariants.{UnderWay, Halted, Runs, BothSend, BothInput, Elsewhere, Full, NoInput, NoWire}

-- ## Sets of nodes: bit j of a number says whether node j is in the set

abbrev pub bit_of : ℕ → ℕ
bit_of node = if nat_lt node 64 then 2 ^ node else 0

abbrev pub has : ℕ → ℕ → Bool
has set node = nat_lt node 64 && (set / 2 ^ node) % 2 == 1

-- ## For which nodes a node waits

-- whether both nodes rest and nothing is on the wire between them
abbrev pub is_stuck : Reason → Bool
is_stuck BothSend = true
is_stuck BothInput = true
is_stuck Elsewhere = true
is_stuck UnderWay = false
is_stuck Halted = false
is_stuck Runs = false
is_stuck Full = false
is_stuck NoInput = false
is_stuck NoWire = false

-- the node at this end of a wire, as a set
abbrev pub edge : Option WireEnd → ℕ
edge None = 0
edge (Some (Link j k)) = bit_of j
edge (Some (AtPort p)) = 0

-- the node for which a process waits at an end of link k of node i, as a set; empty if none waits there
abbrev pub end_row : Seen → Bool → ℕ → NodeSeen → ℕ → ℕ
end_row s sends i own k =
    if is_some (waiting_at own sends k) && is_stuck (why s sends own (4 * i + k)) then edge (receiver s.wires (4 * i + k)) else 0

abbrev pub link_row : Seen → ℕ → NodeSeen → ℕ → ℕ
link_row s i own k = bit_or (end_row s true i own k) (end_row s false i own k)

abbrev pub row_of : Seen → ℕ → NodeSeen → ℕ
row_of s i own = bit_or (bit_or (bit_or (link_row s i own 0) (link_row s i own 1)) (link_row s i own 2)) (link_row s i own 3)

-- for each of these nodes, the nodes for which it waits; the first node has the number that is given
abbrev pub rows_in : Seen → ℕ → List NodeSeen → List ℕ
rows_in s i [] = []
rows_in s i (own ∷ nodes) = row_of s i own ∷ rows_in s (i + 1) nodes

-- ## Also through others

-- A row together with `through`: if a node waits for another one, it also waits for the nodes for which that one waits.
abbrev pub passed : ℕ → ℕ → ℕ → ℕ
passed node through row = if has row node then bit_or row through else row

abbrev pub leads : ℕ → List ℕ → List ℕ
leads node rows = map (passed node (get_or rows node 0)) rows

-- the rows after that is done for the first of the nodes, as many as are given
abbrev pub closed : ℕ → List ℕ → List ℕ
closed zero rows = rows
closed (suc node) rows = leads node (closed node rows)

-- ## Nodes that wait for each other

-- whether nodes i and j wait for each other, by their rows
abbrev pub is_together : ℕ → ℕ → ℕ → ℕ → Bool
is_together mine i row j = has mine j && has row i

-- the first of the nodes that wait for each other together with node i; the first row is that of node j
abbrev pub first_of : ℕ → ℕ → ℕ → List ℕ → Option ℕ
first_of mine i j [] = None
first_of mine i j (row ∷ rows) = if is_together mine i row j then Some j else first_of mine i (j + 1) rows

abbrev pub is_that : ℕ → Option ℕ → Bool
is_that i None = false
is_that i (Some first) = first == i

abbrev pub is_first : ℕ → ℕ → List ℕ → Bool
is_first mine i rows = is_that i (first_of mine i 0 rows)

abbrev pub member : ℕ → ℕ → ℕ → ℕ → List ℕ
member mine i row j = if is_together mine i row j then codes " " ++ decimal j else []

abbrev pub members : ℕ → ℕ → ℕ → List ℕ → List ℕ
members mine i j [] = []
members mine i j (row ∷ rows) = member mine i row j ++ members mine i (j + 1) rows

-- their line, at the first of them
abbrev pub cycle_part : ℕ → ℕ → List ℕ → List ℕ
cycle_part mine i rows = if is_first mine i rows then codes "cycle: nodes" ++ (members mine i 0 rows ++ codes "\n") else []

abbrev pub cycles_from : List ℕ → ℕ → List ℕ → List ℕ
cycles_from rows i [] = []
cycles_from rows i (mine ∷ more) = cycle_part mine i rows ++ cycles_from rows (i + 1) more

-- for each node of a network, the nodes for which it waits, itself or through others
abbrev pub reached : Seen → List ℕ
reached s = closed (length (rows_in s 0 s.nodes)) (rows_in s 0 s.nodes)

abbrev pub cycles_text : Seen → List ℕ
cycles_text s = cycles_from (reached s) 0 (reached s)
