-- The head that bytes are, by their fields.
use Rattle.std.proofs.Common.{◌≡◌, ℕ, ◌+◌, ◌-◌, ◌*◌, ◌<◌, ◌≤◌, List, length, take, drop, map, refl, sym, ap, ◌∙◌, arith, Bool, true, false, cond, inl, inr, ◌⊎◌, Some, None, Ok, Err}
use Rattle.std.specs.Prelude.{not, ◌&&◌, bytes_eq, Option}
use Rattle.tp_area.proofs.Lower.{list_all, range_with_len, and_parts, cases_Bool, cases_lt, le-leb, lt-leb, cond_some, take-take, take_rest, TwoAreas, HeadVersion, WireEnd, OpenFault, NotFormatted, Damaged, NARROW_HEAD_BYTES, MAX_PORTS, u8_at, u64_at, or_damaged, areas_end, fits_device, is_roomy, Head, all_wires, areas_of_length, end_of_number, ends_place, head_at, head_bytes, head_length, head_nodes, head_of, head_with, is_head, keeps_limits, magic, numbers_at, port_wire, u16s_at, version_of, Topology, is_topology, if_topology, parts, whole_front, head_at_same, head_long, keeps_nodes, length-u16s_at, has_shape}
use Rattle.tp_area.specs.declared.head_places.TheConstants.{VERSION_PLACE, NODES_PLACE, PORTS_PLACE, AREA_PLACE, PAGES_PLACE}
use Rattle.tp_area.specs.Ends.{is_end_number}
use Rattle.tp_area.specs.Heads.{can_be_said, is_whole, fields_in, head_in, topology_at, version_given, version_in}
use Rattle.tp_area.proofs.Ends.{numbers_there}
use Rattle.tp_area.proofs.Parts.{u8_at-take}

and_false : (a b : Bool) → (a && (b && false)) ≡ false
and_false true true = refl
and_false true false = refl
and_false false b = refl

-- ## What can't be stated

module _ (version : HeadVersion) (bytes : List ℕ) where
  abbrev t : Topology
  t = (head_at version bytes).topology

  -- a head that is one has few enough nodes and ports, and its ends are numbers of ends
  node_total : length t.pages ≡ u8_at bytes NODES_PLACE
  unfolding head_at
  node_total = length-u16s_at (u8_at bytes NODES_PLACE) (drop PAGES_PLACE bytes)

  few_nodes : keeps_limits version t ≡ true → u8_at bytes NODES_PLACE ≤ head_nodes version
  few_nodes keeps = omega (arith, node_total, keeps_nodes version t keeps)

  few_ports : is_topology t ≡ true → u8_at bytes PORTS_PLACE ≤ MAX_PORTS
  unfolding head_at
  few_ports rules = let shape = has_shape t rules in shape.few_ports

  numbers_are : is_topology t ≡ true → list_all (is_end_number version) (numbers_at version (4 * u8_at bytes NODES_PLACE) (drop (ends_place version) bytes)) ≡ true
  unfolding head_at
  numbers_are rules =
      let shape = has_shape t rules in
      let links = map (end_of_number version) (numbers_at version (4 * u8_at bytes NODES_PLACE) (drop (ends_place version) bytes)) in
      let behind = map (port_wire (u8_at bytes NODES_PLACE) links) (range_with_len 0 (u8_at bytes PORTS_PLACE)) in
      numbers_there version (length t.pages) t.ports shape.few_nodes shape.few_ports t.wires behind 0
      (numbers_at version (4 * u8_at bytes NODES_PLACE) (drop (ends_place version) bytes)) shape.wires

  -- too many nodes or ports, or a number that is none
  pub not_said : (head_nodes version < u8_at bytes NODES_PLACE) ⊎ (MAX_PORTS < u8_at bytes PORTS_PLACE) → can_be_said version t ≡ false
  not_said many = elim (cases_Bool (can_be_said version t)) [
    | inl is ↦
        let both = and_parts (is_topology t) (keeps_limits version t) is in
        absurd (elim many [
          | inl nodes ↦ omega (arith, few_nodes both.1)
          | inr ports ↦ omega (arith, few_ports both.0)
        ])
    | inr not_so ↦ not_so
  ]

  pub not_numbers : (line place : ℕ) (numbers : List ℕ) → line ≡ 4 * u8_at bytes NODES_PLACE → place ≡ ends_place version
      → numbers ≡ numbers_at version line (take (length bytes - place) (drop place bytes)) → list_all (is_end_number version) numbers ≡ false → can_be_said version t ≡ false
  not_numbers line place numbers all at read none = elim (cases_Bool (can_be_said version t)) [
    | inl is ↦
        let both = and_parts (is_topology t) (keeps_limits version t) is in
        let same : numbers ≡ numbers_at version (4 * u8_at bytes NODES_PLACE) (drop (ends_place version) bytes) =
        read ∙ ap (λ xs. numbers_at version line xs) (take_rest bytes place) ∙ (λ i. numbers_at version (all i) (drop (at i) bytes)) in
        let here : list_all (is_end_number version) numbers ≡ true = ap (list_all (is_end_number version)) same ∙ numbers_are both.0 in
        absurd (cc)
    | inr not_so ↦ not_so
  ]

-- ## The topology

pub topology_at-none : (version : HeadVersion) (bytes : List ℕ) → can_be_said version (head_at version bytes).topology ≡ false → None ≡ topology_at version bytes
topology_at-none version bytes none = rw none refl

-- by the parts that are read
pub topology_at-read : (version : HeadVersion) (bytes : List ℕ) (count line place : ℕ) (pages numbers : List ℕ) (wires : List (Option WireEnd)) → count ≡ u8_at bytes NODES_PLACE → line ≡ 4 * count + 0 → place ≡ ends_place version
    → pages ≡ u16s_at count (take (length bytes - PAGES_PLACE) (drop PAGES_PLACE bytes))
    → numbers ≡ numbers_at version line (take (length bytes - place) (drop place bytes))
    → wires ≡ all_wires (u8_at bytes NODES_PLACE) (u8_at bytes PORTS_PLACE) (map (end_of_number version) numbers)
    → parts pages (u8_at bytes PORTS_PLACE) wires ≡ (head_at version bytes).topology
unfolding head_at
topology_at-read version bytes count line place pages numbers wires nodes line_is place_is p n w =
    let pages_are : pages ≡ u16s_at (u8_at bytes NODES_PLACE) (drop PAGES_PLACE bytes) = p ∙ ap (λ xs. u16s_at count xs) (take_rest bytes PAGES_PLACE) ∙ ap (λ k. u16s_at k (drop PAGES_PLACE bytes)) nodes in
    let some : line ≡ 4 * u8_at bytes NODES_PLACE = omega (arith, nodes, line_is) in
    let numbers_are : numbers ≡ numbers_at version (4 * u8_at bytes NODES_PLACE) (drop (ends_place version) bytes) =
    n ∙ ap (λ xs. numbers_at version line xs) (take_rest bytes place) ∙ (λ i. numbers_at version (some i) (drop (place_is i) bytes)) in
    let wires_are : wires ≡ all_wires (u8_at bytes NODES_PLACE) (u8_at bytes PORTS_PLACE) (map (end_of_number version) (numbers_at version (4 * u8_at bytes NODES_PLACE) (drop (ends_place version) bytes))) =
    w ∙ ap (λ ns. all_wires (u8_at bytes NODES_PLACE) (u8_at bytes PORTS_PLACE) (map (end_of_number version) ns)) numbers_are in
    λ i. parts (pages_are i) (u8_at bytes PORTS_PLACE) (wires_are i)

-- if those are none, and if they are one
unsaid : (b k : Bool) (t : Topology) → cond b (Some t) None ≡ None → (b && k) ≡ false
unsaid true k t h = absurd (cc)
unsaid false k t h = refl

pub topology_at-unsaid : (version : HeadVersion) (bytes : List ℕ) (t : Topology) → t ≡ (head_at version bytes).topology → if_topology t ≡ None → None ≡ topology_at version bytes
topology_at-unsaid version bytes t is none =
    topology_at-none version bytes (ap (can_be_said version) (sym is) ∙ unsaid (is_topology t) (keeps_limits version t) t none)

pub topology_at-said : (version : HeadVersion) (bytes : List ℕ) (t found : Topology) (keeps : Bool) → t ≡ (head_at version bytes).topology → if_topology t ≡ Some found → keeps ≡ keeps_limits version found
    → topology_at version bytes ≡ cond keeps (Some found) None
topology_at-said version bytes t found keeps is told test =
    let T = cond_some (is_topology t) t found told in
    let same : (head_at version bytes).topology ≡ found = sym is ∙ T.1 in
    let rules : is_topology found ≡ true = ap (λ (s : Topology). is_topology s) (sym T.1) ∙ T.0 in
    ap (λ (s : Topology). cond (can_be_said version s) (Some s) None) same
    ∙ (λ i. cond (rules i && sym test i) (Some found) None)

-- ## What the tests answer together

pub fields_in-whole : (version : HeadVersion) (len : ℕ) (bytes : List ℕ) (head : Head) (whole : Bool) → head_at version bytes ≡ head → whole ≡ is_whole len bytes head
    → fields_in version len bytes ≡ cond whole (Some head) None
fields_in-whole version len bytes head whole is test = rw (is, test) refl

-- a head that can't be stated is none
fields_in-not : (version : HeadVersion) (len : ℕ) (bytes : List ℕ) → can_be_said version (head_at version bytes).topology ≡ false → None ≡ fields_in version len bytes
unfolding head_at
fields_in-not version len bytes none = rw none refl

pub fields_in-none : (version : HeadVersion) (len : ℕ) (bytes : List ℕ) → topology_at version bytes ≡ None → None ≡ fields_in version len bytes
fields_in-none version len bytes none = elim (cases_Bool (can_be_said version (head_at version bytes).topology)) [
  | inl said ↦
      let some : topology_at version bytes ≡ Some (head_at version bytes).topology = rw said refl in
      absurd (cc)
  | inr unsaid ↦ fields_in-not version len bytes unsaid
]

pub fields_in-said : (version : HeadVersion) (len : ℕ) (bytes : List ℕ) (t : Topology) (areas : TwoAreas) (whole : Bool) → topology_at version bytes ≡ Some t → areas ≡ areas_of_length version (u64_at bytes AREA_PLACE)
    → whole ≡ (bytes_eq bytes (head_bytes version t areas) && fits_device len t areas) → fields_in version len bytes ≡ cond whole (Some (record { version = version; topology = t; areas = areas })) None
unfolding head_at
fields_in-said version len bytes t areas whole told is test =
    let found = cond_some (can_be_said version (head_at version bytes).topology) (head_at version bytes).topology t told in
    let head : Head = record { version = version; topology = t; areas = areas } in
    let same : head_at version bytes ≡ head = λ i. record { version = version; topology = found.1 i; areas = sym is i } in
    let good : can_be_said version t ≡ true = ap (can_be_said version) (sym found.1) ∙ found.0 in
    fields_in-whole version len bytes head whole same (test ∙ ap (λ b. b && (bytes_eq bytes (head_bytes version t areas) && fits_device len t areas)) (sym good))

-- ## Of a device

-- the first bytes of a device say the head that all its bytes say, if it has few enough nodes
head_at-front : (version : HeadVersion) (xs : List ℕ) → u8_at xs NODES_PLACE ≤ head_nodes version → head_at version (take (head_length version) xs) ≡ head_at version xs
head_at-front version xs few = head_at_same version xs (take (head_length version) xs) (whole_front (head_length version) xs) few

or_damaged-cond : {A : Type 0} (at : ℕ) (b : Bool) (x : A) → or_damaged at (cond b (Some x) None) ≡ cond b (Ok x) (Err (Damaged at))
or_damaged-cond at true x = refl
or_damaged-cond at false x = refl

-- and what is tested of them is what is tested of it
is_head-front : (version : HeadVersion) (xs : List ℕ) → is_head (head_at version xs) xs ≡ is_whole (length xs) (take (head_length version) xs) (head_at version xs)
unfolding head_at
is_head-front version xs = refl

is_head-not : (version : HeadVersion) (xs : List ℕ) → can_be_said version (head_at version xs).topology ≡ false → is_head (head_at version xs) xs ≡ false
unfolding head_at
is_head-not version xs none = rw none refl

-- what its head says, once its version is known
pub head_with-front : (version : HeadVersion) (xs : List ℕ) → head_with (Some version) xs ≡ head_in version (length xs) (take (head_length version) xs)
head_with-front version xs = elim (cases_lt (head_nodes version) (u8_at xs NODES_PLACE)) [
  | inl many ↦
      let front = take (head_length version) xs in
      let long = head_long version in
      let here : head_nodes version < u8_at front NODES_PLACE = rw (u8_at-take (head_length version) NODES_PLACE xs (omega arith)) many in
      ap (λ b. cond b (Ok (head_at version xs)) (Err (Damaged 0))) (is_head-not version xs (not_said version xs (inl many)))
      ∙ ap (or_damaged 0) (fields_in-not version (length xs) front (not_said version front (inl here)))
  | inr few ↦
      sym (ap (or_damaged 0) (fields_in-whole version (length xs) (take (head_length version) xs) (head_at version xs) (is_head (head_at version xs) xs) (head_at-front version xs few) (is_head-front version xs))
      ∙ or_damaged-cond 0 (is_head (head_at version xs) xs) (head_at version xs))
]

-- one that is too short for it has none
pub head_with-cut_off : (version : HeadVersion) (xs : List ℕ) → length xs < head_length version → head_with (Some version) xs ≡ Err (Damaged 0)
unfolding head_at
head_with-cut_off version xs short =
    let head = head_at version xs in
    let no_room : fits_device (length xs) head.topology head.areas ≡ false =
    ap (λ b. b && is_roomy head.topology head.areas.length) (lt-leb (areas_end head.areas) (length xs) (omega arith)) in
    let same = bytes_eq (take head.areas.first xs) (head_bytes version head.topology head.areas) in
    let none : is_head head xs ≡ false =
    ap (λ b. can_be_said version head.topology && (same && b)) no_room ∙ and_false (can_be_said version head.topology) same in
    ap (λ b. cond b (Ok head) (Err (Damaged 0))) none

-- the version that its first bytes say
pub version_in-front : (xs : List ℕ) → version_in (take NARROW_HEAD_BYTES xs) ≡ version_in xs
version_in-front xs = rw (take-take VERSION_PLACE NARROW_HEAD_BYTES xs (omega arith), u8_at-take NARROW_HEAD_BYTES VERSION_PLACE xs (omega arith)) refl

head_of-long : (xs : List ℕ) → NARROW_HEAD_BYTES ≤ length xs → head_of xs ≡ cond (not (bytes_eq (take VERSION_PLACE xs) magic)) (Err NotFormatted) (head_with (version_of (u8_at xs VERSION_PLACE)) xs)
unfolding head_of
head_of-long xs le = rw (le-leb NARROW_HEAD_BYTES (length xs) le) refl

by_version : (strange : Bool) (found : Option HeadVersion) (fault : OpenFault) (xs : List ℕ) → cond strange (Err NotFormatted) (version_given found) ≡ Err fault
    → cond strange (Err NotFormatted) (head_with found xs) ≡ Err fault
by_version true found fault xs is = cc
by_version false None fault xs is = cc
by_version false (Some version) fault xs is = absurd (cc)

of_version : (strange : Bool) (found : Option HeadVersion) (version : HeadVersion) (xs : List ℕ) → cond strange (Err NotFormatted) (version_given found) ≡ Ok version
    → cond strange (Err NotFormatted) (head_with found xs) ≡ head_with (Some version) xs
of_version true found version xs is = absurd (cc)
of_version false None version xs is = absurd (cc)
of_version false (Some other) version xs is = let same : other ≡ version = cc in ap (λ v. head_with (Some v) xs) same

-- ## What is read first

pub head_of-short : (xs : List ℕ) → length xs < NARROW_HEAD_BYTES → head_of xs ≡ Err NotFormatted
unfolding head_of
head_of-short xs lt = rw (lt-leb NARROW_HEAD_BYTES (length xs) lt) refl

pub head_of-faulty : (xs front : List ℕ) (fault : OpenFault) → NARROW_HEAD_BYTES ≤ length xs → front ≡ take NARROW_HEAD_BYTES xs → version_in front ≡ Err fault → head_of xs ≡ Err fault
head_of-faulty xs front fault le is said =
    head_of-long xs le
    ∙ by_version (not (bytes_eq (take VERSION_PLACE xs) magic)) (version_of (u8_at xs VERSION_PLACE)) fault xs (sym (version_in-front xs) ∙ ap version_in (sym is) ∙ said)

head_of-version : (version : HeadVersion) (xs front : List ℕ) → NARROW_HEAD_BYTES ≤ length xs → front ≡ take NARROW_HEAD_BYTES xs → version_in front ≡ Ok version → head_of xs ≡ head_with (Some version) xs
head_of-version version xs front le is said =
    head_of-long xs le
    ∙ of_version (not (bytes_eq (take VERSION_PLACE xs) magic)) (version_of (u8_at xs VERSION_PLACE)) version xs (sym (version_in-front xs) ∙ ap version_in (sym is) ∙ said)

-- ## What is read then

pub head_of-cut_off : (version : HeadVersion) (xs front : List ℕ) → NARROW_HEAD_BYTES ≤ length xs → front ≡ take NARROW_HEAD_BYTES xs → version_in front ≡ Ok version → length xs < head_length version → head_of xs ≡ Err (Damaged 0)
head_of-cut_off version xs front le is said short = head_of-version version xs front le is said ∙ head_with-cut_off version xs short

pub head_of-read : (version : HeadVersion) (xs front bytes : List ℕ) (len : ℕ) → length xs ≡ len → head_length version ≤ len → front ≡ take NARROW_HEAD_BYTES xs → version_in front ≡ Ok version
    → bytes ≡ take (head_length version) xs → head_of xs ≡ head_in version len bytes
head_of-read version xs front bytes len is le narrow said all =
    let long = head_long version in
    head_of-version version xs front (omega arith) narrow said ∙ head_with-front version xs
    ∙ ap (λ n. head_in version n (take (head_length version) xs)) is ∙ ap (head_in version len) (sym all)
