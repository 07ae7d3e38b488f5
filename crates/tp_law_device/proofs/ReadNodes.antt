-- The nodes of a cut that is read are of bytes, as the content is.
use Rattle.std.proofs.Common.{◌≡◌, ℕ, ◌+◌, List, [], ◌∷◌, take, drop, subst, Ok}
use Rattle.std.specs.Prelude.{◌==◌}
use Rattle.tp_law_device.proofs.Lower.{AllByRecursion, NodeState, page_count, node_of, Network, EndsSeen, Topology, line_count, image_length, node_with, or_damaged, nodes_in, lines_in, ports_in, flights_in, base_of, network_of, nodes_place, lines_place, ports_place, cut_in, IsNodeOfBytes, node_of_bytes, AreBytes, are_bytes-take, are_bytes-drop}
use Rattle.tp_law_device.proofs.Faults.{bind_ok, or_damaged_ok, tested}

nodes_of_bytes : (at : ℕ) (pages xs : List ℕ) (nodes : List NodeState) → AreBytes xs → nodes_in at pages xs ≡ Ok nodes → AllByRecursion IsNodeOfBytes nodes
unfolding nodes_in
nodes_of_bytes at [] xs nodes h is = let none : [] ≡ nodes = cc in subst (AllByRecursion IsNodeOfBytes) none tt
nodes_of_bytes at (pages ∷ more) xs nodes h is =
    let long = image_length pages in
    let first = bind_ok (or_damaged at (node_with pages xs)) _ nodes is in
    let rest = bind_ok (nodes_in (at + long) more (drop long xs)) _ nodes first.2 in
    let found = tested (λ n. page_count n.memory == pages) (node_of (take long xs)) first.0 (or_damaged_ok at (node_with pages xs) first.0 first.1) in
    let all : first.0 ∷ rest.0 ≡ nodes = let both = rest.2 in cc in
    subst (AllByRecursion IsNodeOfBytes) all
    (node_of_bytes (take long xs) first.0 (are_bytes-take long xs h) found.0, nodes_of_bytes (at + long) more (drop long xs) rest.0 (are_bytes-drop long xs h) rest.1)

pub read_of_bytes : (E : EndsSeen NodeState) (t : Topology) (at : ℕ) (content : List ℕ) (s : Network NodeState) → AreBytes content → cut_in E t at content ≡ Ok s → AllByRecursion IsNodeOfBytes s.nodes
unfolding cut_in
read_of_bytes E t at content s h is =
    let a = bind_ok (nodes_in (at + nodes_place) t.pages (drop nodes_place content)) _ s is in
    let b = bind_ok (lines_in (at + lines_place t) t.wires (drop (lines_place t) content)) _ s a.2 in
    let c = bind_ok (ports_in (base_of content) (at + ports_place t) t.ports (drop (ports_place t) content)) _ s b.2 in
    let network = network_of t a.0 b.0 c.0 in
    let d = bind_ok (flights_in E network (at + lines_place t) 0 (line_count t)) _ s c.2 in
    let same : network ≡ s = let both = d.2 in cc in
    subst (λ (n : Network NodeState). AllByRecursion IsNodeOfBytes n.nodes) same
    (nodes_of_bytes (at + nodes_place) t.pages (drop nodes_place content) a.0 (are_bytes-drop nodes_place content h) a.1)
