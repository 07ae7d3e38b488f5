-- A head that was written is read back.
use Rattle.std.proofs.Common.{◌≡◌, ℕ, zero, suc, ◌+◌, ◌-◌, ◌*◌, ◌^◌, ◌<◌, ◌≤◌, true, List, [], ◌∷◌, ◌++◌, length, take, drop, get_or, refl, sym, ap, subst, ◌∙◌, arith, append_assoc, length-append, Some, Ok}
use Rattle.std.specs.Prelude.{nat_le, map, flat_map}
use Rattle.tp_law_device.proofs.Lower.{list_all, and_parts, leb-true, take-take, take_at, drop_at, drop-drop, length-map, length-replicate, from_le_bytes-to_le_bytes_2, from_le_bytes-to_le_bytes_8, TwoAreas, HeadVersion, Narrow, Wide, MIN_PAGES, MAX_PAGES, u16_bytes, u64_bytes, u8_at, u16_at, u64_at, zeros, padded, Topology, node_count, is_page_count, is_topology, areas_end, fits_device, version_byte, version_of, head_length, head_nodes, keeps_limits, magic, end_number, end_of_number, numbers_bytes, numbers_at, ends_place, head_bytes, all_wires, u16s_at, head_at, head_of}
use Rattle.tp_law_device.proofs.Fronts.{SameFront, front_shorter, front_get}
use Rattle.tp_law_device.proofs.Heads.{number_width, head_long, ends_fit, keeps_nodes, head_at_same, head_from}
use Rattle.tp_law_device.proofs.Wires.{HasShape, has_shape, length-links, links_back, numbers_low, wires_back}

-- ## Numbers

length-u16s : (numbers : List ℕ) → length (flat_map u16_bytes numbers) ≡ 2 * length numbers
length-u16s [] = refl
length-u16s (n ∷ ns) = omega (arith, length-append (u16_bytes n) (flat_map u16_bytes ns), length-u16s ns)

pub u16s_back : (numbers : List ℕ) (rest : List ℕ) → ((i : ℕ) → i < length numbers → get_or numbers i 0 < 2 ^ 16) → u16s_at (length numbers) (flat_map u16_bytes numbers ++ rest) ≡ numbers
unfolding u16s_at
u16s_back [] rest low = refl
u16s_back (n ∷ ns) rest low =
    let first : u16_at ((u16_bytes n ++ flat_map u16_bytes ns) ++ rest) 0 ≡ n = from_le_bytes-to_le_bytes_2 n (low 0 (omega arith)) in
    let more = u16s_back ns rest (λ i within. low (suc i) (omega arith)) in
    λ i. first i ∷ more i

pages_low : (pages : List ℕ) → list_all is_page_count pages ≡ true → (i : ℕ) → i < length pages → get_or pages i 0 < 2 ^ 16
pages_low [] h i within = absurd (omega arith)
pages_low (n ∷ ns) h zero within =
    let both = and_parts (is_page_count n) (list_all is_page_count ns) h in
    let most = leb-true n MAX_PAGES (and_parts (nat_le MIN_PAGES n) (nat_le n MAX_PAGES) both.0).1 in
    omega arith
pages_low (n ∷ ns) h (suc i) within = pages_low ns (and_parts (is_page_count n) (list_all is_page_count ns) h).1 i (omega arith)

-- the numbers of ends
length-numbers : (version : HeadVersion) (numbers : List ℕ) → length (numbers_bytes version numbers) ≡ number_width version * length numbers
length-numbers Narrow numbers = omega arith
length-numbers Wide numbers = length-u16s numbers

numbers_back : (version : HeadVersion) (numbers : List ℕ) (rest : List ℕ) → ((i : ℕ) → i < length numbers → get_or numbers i 0 < 2 ^ 16)
    → numbers_at version (length numbers) (numbers_bytes version numbers ++ rest) ≡ numbers
numbers_back Narrow numbers rest low = take_at numbers rest (length numbers) refl
numbers_back Wide numbers rest low = u16s_back numbers rest low

version_back : (version : HeadVersion) → version_of (version_byte version) ≡ Some version
version_back Narrow = refl
version_back Wide = refl

-- ## The bytes of a head

module _ (version : HeadVersion) (t : Topology) (L : HasShape t) (keeps : keeps_limits version t ≡ true) (areas : TwoAreas) (starts : areas.first ≡ head_length version) where
  few : node_count t ≤ head_nodes version
  few = keeps_nodes version t keeps

  abbrev numbers : List ℕ
  numbers = map (end_number version) (take (4 * node_count t) t.wires)

  abbrev ends : List ℕ
  ends = numbers_bytes version numbers

  abbrev fields : List ℕ
  fields = padded (2 * head_nodes version) (flat_map u16_bytes t.pages)

  -- all that is before the 00 at its end
  abbrev first : List ℕ
  first = magic ++ (version_byte version ∷ node_count t ∷ t.ports ∷ (zeros 6 ++ (u64_bytes areas.length ++ (fields ++ ends))))

  length-fields : length fields ≡ 2 * head_nodes version
  length-fields = omega (arith, length-append (flat_map u16_bytes t.pages) (zeros (2 * head_nodes version - length (flat_map u16_bytes t.pages))), length-u16s t.pages, length-replicate {A = ℕ} (2 * head_nodes version - length (flat_map u16_bytes t.pages)) 0, few)

  count_numbers : length numbers ≡ 4 * node_count t
  count_numbers = length-map (take (4 * node_count t) t.wires) (end_number version) ∙ length-links t L

  length-ends : length ends ≡ number_width version * (4 * node_count t)
  length-ends = length-numbers version numbers ∙ ap (λ n. number_width version * n) count_numbers

  pub length-head_bytes : length (head_bytes version t areas) ≡ areas.first
  unfolding head_bytes
  length-head_bytes =
      let wide = number_width version * (4 * node_count t) in
      let is : length ends ≡ wide = length-ends in
      let within : ends_place version + wide ≤ head_length version = ends_fit version (node_count t) few in
      let size : length first ≡ ends_place version + wide = omega (arith, length-append fields ends, length-fields, is) in
      omega (arith, length-append first (zeros (areas.first - length first)), length-replicate {A = ℕ} (areas.first - length first) 0, size, starts, within)

  behind_area : drop 24 (head_bytes version t areas) ≡ (fields ++ ends) ++ zeros (areas.first - length first)
  unfolding head_bytes
  behind_area = refl

  nodes_there : u8_at (head_bytes version t areas) 8 ≡ node_count t
  unfolding head_bytes
  nodes_there = refl

  ports_there : u8_at (head_bytes version t areas) 9 ≡ t.ports
  unfolding head_bytes
  ports_there = refl

  version_there : version_of (u8_at (head_bytes version t areas) 7) ≡ Some version
  unfolding head_bytes
  version_there = version_back version

  magic_there : take 7 (head_bytes version t areas) ≡ magic
  unfolding head_bytes
  magic_there = refl

  area_there : areas.length < 2 ^ 64 → u64_at (head_bytes version t areas) 16 ≡ areas.length
  unfolding head_bytes
  area_there low = from_le_bytes-to_le_bytes_8 areas.length low

  pages_there : u16s_at (node_count t) (drop 24 (head_bytes version t areas)) ≡ t.pages
  pages_there =
      let P = flat_map u16_bytes t.pages in
      let pad = zeros (2 * head_nodes version - length P) in
      let back = zeros (areas.first - length first) in
      let all : ((P ++ pad) ++ ends) ++ back ≡ P ++ (pad ++ (ends ++ back)) = append_assoc (P ++ pad) ends back ∙ append_assoc P pad (ends ++ back) in
      ap (u16s_at (node_count t)) (behind_area ∙ all) ∙ u16s_back t.pages (pad ++ (ends ++ back)) (pages_low t.pages L.pages)

  ends_there : numbers_at version (4 * node_count t) (drop (ends_place version) (head_bytes version t areas)) ≡ numbers
  ends_there =
      let pages = 2 * head_nodes version in
      let back = zeros (areas.first - length first) in
      let behind : drop (ends_place version) (head_bytes version t areas) ≡ ends ++ back =
      sym (drop-drop pages 24 (head_bytes version t areas)) ∙ ap (drop pages) (behind_area ∙ append_assoc fields ends back) ∙ drop_at fields (ends ++ back) pages length-fields in
      (λ i. numbers_at version (sym count_numbers i) (behind i))
      ∙ numbers_back version numbers back (λ i within. numbers_low t L version few i (omega (arith, count_numbers, length-links t L)))

  head_at-head_bytes : areas.length < 2 ^ 64 → head_at version (head_bytes version t areas) ≡ record { version = version; topology = t; areas = areas }
  unfolding head_at
  head_at-head_bytes low =
      let N = node_count t in
      let xs = head_bytes version t areas in
      let behind = drop (ends_place version) xs in
      let size = area_there low in
      let nodes = nodes_there in
      let ports = ports_there in
      let pages : u16s_at (u8_at xs 8) (drop 24 xs) ≡ t.pages = ap (λ k. u16s_at k (drop 24 xs)) nodes ∙ pages_there in
      let bytes : numbers_at version (4 * u8_at xs 8) behind ≡ numbers = ap (λ k. numbers_at version (4 * k) behind) nodes ∙ ends_there in
      let wires : all_wires (u8_at xs 8) (u8_at xs 9) (map (end_of_number version) (numbers_at version (4 * u8_at xs 8) behind)) ≡ t.wires =
      (λ i. all_wires (nodes i) (ports i) (map (end_of_number version) (bytes i))) ∙ ap (all_wires N t.ports) (links_back t L version few) ∙ wires_back t L in
      λ i. record { version = version; topology = record { pages = pages i; ports = ports i; wires = wires i }; areas = record { first = sym starts i; length = size i } }

-- A device whose first bytes are a head's has this head.
pub head_of-head_bytes : (version : HeadVersion) (t : Topology) (areas : TwoAreas) (bytes : List ℕ) → is_topology t ≡ true → keeps_limits version t ≡ true → fits_device (length bytes) t areas ≡ true
    → areas.first ≡ head_length version → areas.length < 2 ^ 64 → take areas.first bytes ≡ head_bytes version t areas → head_of bytes ≡ Ok (record { version = version; topology = t; areas = areas })
head_of-head_bytes version t areas bytes topology keeps room starts low is =
    let L = has_shape t topology in
    let head = head_bytes version t areas in
    let size = head_length version in
    let least = head_long version in
    let same : SameFront areas.first head bytes = record { same = ap (take areas.first) (sym is) ∙ take-take areas.first areas.first bytes (omega arith) } in
    let whole : SameFront size head bytes = subst (λ n. SameFront n head bytes) starts same in
    let front = front_shorter 7 size head bytes (omega arith) whole in
    let parts = and_parts (nat_le (areas_end areas) (length bytes)) _ room in
    let long = leb-true (areas_end areas) (length bytes) parts.0 in
    head_from bytes (record { version = version; topology = t; areas = areas }) (record {
      long = omega (arith, long, starts);
      formatted = sym front.same ∙ magic_there version t L keeps areas starts;
      version = ap version_of (sym (front_get size head bytes whole 7 (omega arith))) ∙ version_there version t L keeps areas starts;
      read = head_at_same version head bytes whole (omega (arith, keeps_nodes version t keeps, nodes_there version t L keeps areas starts)) ∙ head_at-head_bytes version t L keeps areas starts low;
      topology = topology;
      limits = keeps;
      front = is;
      room = room;
    })
