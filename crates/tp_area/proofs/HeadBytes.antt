-- A head, written field by field.
use Rattle.std.proofs.Common.{◌≡◌, ℕ, ◌+◌, ◌-◌, ◌*◌, ◌<◌, ◌≤◌, true, List, [], ◌∷◌, ◌++◌, length, take, get_or, map, sym, ap, ◌∙◌, arith, append_assoc, length-append, length-take, None}
use Rattle.std.specs.Prelude.{Option}
use Rattle.tp_area.proofs.Lower.{get_or-map, length-map, TwoAreas, HeadVersion, Narrow, Wide, MAX_PORTS, WIDE_HEAD_BYTES, WireEnd, u16_bytes, u64_bytes, padded, zeros, end_number, ends_place, first_port, head_bytes, head_length, head_nodes, keeps_limits, magic, numbers_bytes, version_byte, Topology, is_topology, node_count, keeps_nodes, has_shape, end_number-bound, flat_map}
use Rattle.tp_area.specs.declared.head_places.TheConstants.{AREA_PLACE}

-- what is filled up after other bytes
pub padded-behind : (n m : ℕ) (front bytes : List ℕ) → m ≡ n + length front → padded m (front ++ bytes) ≡ front ++ padded n bytes
padded-behind n m front bytes is =
    append_assoc front bytes (zeros (m - length (front ++ bytes)))
    ∙ ap (λ k. front ++ (bytes ++ zeros k)) (omega (arith, length-append front bytes))

pub head_bytes-written : (version : HeadVersion) (t : Topology) (areas : TwoAreas) (start fixed numbered paged filled ends : List ℕ)
    → areas.first ≡ head_length version
    → start ≡ magic ++ (version_byte version ∷ node_count t ∷ t.ports ∷ [])
    → fixed ≡ padded AREA_PLACE start
    → numbered ≡ fixed ++ u64_bytes areas.length
    → paged ≡ numbered ++ flat_map u16_bytes t.pages
    → filled ≡ padded (ends_place version) paged
    → ends ≡ filled ++ numbers_bytes version (map (end_number version) (take (4 * node_count t) t.wires))
    → padded (head_length version) ends ≡ head_bytes version t areas
unfolding head_bytes
head_bytes-written version t areas start fixed numbered paged filled ends starts s1 s2 s3 s4 s5 s6 =
    let fields = (magic ++ (version_byte version ∷ node_count t ∷ t.ports ∷ [])) ++ (zeros 6 ++ u64_bytes areas.length) in
    let pages = flat_map u16_bytes t.pages in
    let links = numbers_bytes version (map (end_number version) (take (4 * node_count t) t.wires)) in
    let room = 2 * head_nodes version in
    let to_area : numbered ≡ fields = s3 ∙ ap (λ xs. xs ++ u64_bytes areas.length) (s2 ∙ ap (padded AREA_PLACE) s1) in
    let to_pages : filled ≡ fields ++ padded room pages = s5 ∙ ap (padded (ends_place version)) (s4 ∙ ap (λ xs. xs ++ pages) to_area) ∙ padded-behind room (ends_place version) fields pages (omega arith) in
    ap (λ n. padded n ends) (sym starts) ∙ ap (padded areas.first) (s6 ∙ ap (λ xs. xs ++ links) to_pages ∙ append_assoc fields (padded room pages) links)

-- the head's bytes, by what the writer sees of the version and the topology
pub head_bytes-put : (version : HeadVersion) (t : Topology) (areas : TwoAreas) (byte ports size place count : ℕ) (pages : List ℕ) (wires : List (Option WireEnd)) (numbers empty first start fixed numbered paged filled ends : List ℕ)
    → areas.first ≡ head_length version → size ≡ head_length version → place ≡ ends_place version → byte ≡ version_byte version → pages ≡ t.pages → ports ≡ t.ports → wires ≡ t.wires → count ≡ 4 * length pages
    → numbers ≡ map (end_number version) (take count wires)
    → empty ≡ [] → first ≡ empty ++ magic → start ≡ first ++ (byte ∷ length pages ∷ ports ∷ [])
    → fixed ≡ padded AREA_PLACE start
    → numbered ≡ fixed ++ u64_bytes areas.length
    → paged ≡ numbered ++ flat_map u16_bytes pages
    → filled ≡ padded place paged
    → ends ≡ filled ++ numbers_bytes version numbers
    → padded size ends ≡ head_bytes version t areas
head_bytes-put version t areas byte ports size place count pages wires numbers empty first start fixed numbered paged filled ends starts z a b p h w n e s0 s1 s2 s3 s4 s5 s6 s7 =
    ap (λ k. padded k ends) z
    ∙ head_bytes-written version t areas start fixed numbered paged filled ends starts
    (s2 ∙ ap (λ xs. xs ++ (byte ∷ length pages ∷ ports ∷ [])) (s1 ∙ ap (λ xs. xs ++ magic) s0)
    ∙ (λ i. magic ++ (b i ∷ length (p i) ∷ h i ∷ [])))
    s3 s4
    (s5 ∙ ap (λ xs. numbered ++ flat_map u16_bytes xs) p)
    (s6 ∙ ap (λ k. padded k paged) a)
    (s7 ∙ ap (λ xs. filled ++ numbers_bytes version xs) (e ∙ ap (λ k. map (end_number version) (take k wires)) (n ∙ ap (λ xs. 4 * length xs) p) ∙ ap (λ xs. map (end_number version) (take (4 * node_count t) xs)) w))

-- ## Its ends

-- what comes after the pages fits into the head, two bytes an end
pub ends_fit : (version : HeadVersion) (count : ℕ) → count ≤ head_nodes version → ends_place version + 2 * (4 * count) ≤ head_length version
ends_fit Narrow count few = omega arith
ends_fit Wide count few = omega arith

-- the numbers of the ends that are there
pub numbers_low : (version : HeadVersion) (t : Topology) (wires : List (Option WireEnd)) (n : ℕ) (numbers : List ℕ) → is_topology t ≡ true → keeps_limits version t ≡ true → wires ≡ t.wires
    → numbers ≡ map (end_number version) (take n wires) → (i : ℕ) → i < length numbers → get_or numbers i 0 < first_port version + MAX_PORTS
numbers_low version t wires n numbers rules keeps w is i lt =
    let there : i < length (take n wires) = omega (arith, ap length is, length-map (take n wires) (end_number version)) in
    let here : get_or numbers i 0 ≡ end_number version (get_or (take n wires) i None) = ap (λ ns. get_or ns i 0) is ∙ get_or-map (end_number version) (take n wires) i None 0 there in
    omega (arith, here, end_number-bound version t wires n i (has_shape t rules) (keeps_nodes version t keeps) w there)

-- and how many there are
numbers_fit : (version : HeadVersion) (t : Topology) (wires : List (Option WireEnd)) (n : ℕ) (numbers : List ℕ) → keeps_limits version t ≡ true → n ≡ 4 * node_count t
    → numbers ≡ map (end_number version) (take n wires) → ends_place version + 2 * length numbers ≤ head_length version
numbers_fit version t wires n numbers keeps some is =
    let few = keeps_nodes version t keeps in
    omega (arith, ap length is, length-map (take n wires) (end_number version), length-take n wires, ends_fit version (node_count t) few)

head_small : (version : HeadVersion) → head_length version ≤ WIDE_HEAD_BYTES
head_small Narrow = omega arith
head_small Wide = omega arith

-- so they have room in a buffer for either head, and in the head
pub numbers_room : (version : HeadVersion) (t : Topology) (wires : List (Option WireEnd)) (n : ℕ) (numbers : List ℕ) → keeps_limits version t ≡ true → n ≡ 4 * node_count t
    → numbers ≡ map (end_number version) (take n wires) → (ends_place version + 2 * length numbers ≤ WIDE_HEAD_BYTES) × (ends_place version + 2 * length numbers ≤ head_length version)
numbers_room version t wires n numbers keeps some is =
    let fit = numbers_fit version t wires n numbers keeps some is in
    let small = head_small version in
    (omega arith, fit)
