-- The device's head is read of its own bytes and of the device's length.
use Rattle.std.proofs.Common.{◌≡◌, ℕ, zero, suc, ◌+◌, ◌*◌, ◌≤◌, true, inl, inr, cond, List, [], ◌∷◌, length, take, drop, refl, sym, ap, subst, ◌∙◌, arith, Option, Some, None, Ok, Err, not}
use Rattle.std.specs.Prelude.{◌&&◌, nat_le, bytes_eq, map}
use Rattle.tp_law_device.proofs.Lower.{list_all, and_parts, and_from, cases_Bool, leb-true, le-leb, not-false, bytes_eq-Decides, TwoAreas, HeadVersion, Narrow, Wide, NARROW_HEAD_BYTES, WIDE_HEAD_NODES, WIDE_HEAD_PAGES, MIN_PAGES, MAX_PAGES, NotFormatted, Damaged, u8_at, u64_at, Topology, node_count, line_count, is_page_count, is_topology, is_roomy, areas_end, fits_device, Head, version_of, head_length, head_nodes, head_pages, keeps_limits, version_for, magic, end_of_number, numbers_at, ends_place, head_bytes, areas_of_length, all_wires, u16s_at, head_at, is_head, head_with, head_of}
use Rattle.tp_law_device.proofs.Faults.{fault_or, or_fault}
use Rattle.tp_law_device.proofs.Fronts.{SameFront, front_shorter, front_part, front_get, u16_front, u64_front}
use Rattle.tp_law_device.proofs.Wires.{has_shape}

pub length-u16s_at : (count : ℕ) (bytes : List ℕ) → length (u16s_at count bytes) ≡ count
unfolding u16s_at
length-u16s_at zero bytes = refl
length-u16s_at (suc count) bytes = ap suc (length-u16s_at count (drop 2 bytes))

u16s_same : (count : ℕ) (xs ys : List ℕ) → SameFront (2 * count) xs ys → u16s_at count xs ≡ u16s_at count ys
unfolding u16s_at
u16s_same zero xs ys h = refl
u16s_same (suc count) xs ys h =
    let here = u16_front 0 (2 * suc count) xs ys (omega arith) h in
    let rest = u16s_same count (drop 2 xs) (drop 2 ys) (front_part 2 (2 * count) (2 * suc count) xs ys (omega arith) h) in
    λ i. here i ∷ rest i

-- ## The two versions

-- how many bytes the number of an end has
abbrev pub number_width : HeadVersion → ℕ
number_width Narrow = 1
number_width Wide = 2

-- a wide head is no shorter than a narrow one
pub head_long : (version : HeadVersion) → NARROW_HEAD_BYTES ≤ head_length version
head_long Narrow = omega arith
head_long Wide = omega arith

-- the fields of a head's nodes are inside the head
pub pages_fit : (version : HeadVersion) (count : ℕ) → count ≤ head_nodes version → 24 + 2 * count ≤ head_length version
pages_fit Narrow count few = omega arith
pages_fit Wide count few = omega arith

pub ends_fit : (version : HeadVersion) (count : ℕ) → count ≤ head_nodes version → ends_place version + number_width version * (4 * count) ≤ head_length version
ends_fit Narrow count few = omega arith
ends_fit Wide count few = omega arith

pub numbers_same : (version : HeadVersion) (count : ℕ) (xs ys : List ℕ) → SameFront (number_width version * count) xs ys → numbers_at version count xs ≡ numbers_at version count ys
numbers_same Narrow count xs ys h = let same = subst (λ n. SameFront n xs ys) (omega arith) h in same.same
numbers_same Wide count xs ys h = u16s_same count xs ys h

-- a topology within a version's limits has no more nodes than the head has fields for
pub keeps_nodes : (version : HeadVersion) (t : Topology) → keeps_limits version t ≡ true → node_count t ≤ head_nodes version
keeps_nodes version t h =
    leb-true (node_count t) (head_nodes version) (and_parts (nat_le (node_count t) (head_nodes version)) (list_all (λ pages. nat_le pages (head_pages version)) t.pages) h).0

pages_below : (pages : List ℕ) → list_all is_page_count pages ≡ true → list_all (λ n. nat_le n WIDE_HEAD_PAGES) pages ≡ true
pages_below [] h = refl
pages_below (n ∷ ns) h =
    let both = and_parts (is_page_count n) (list_all is_page_count ns) h in
    let most = leb-true n MAX_PAGES (and_parts (nat_le MIN_PAGES n) (nat_le n MAX_PAGES) both.0).1 in
    and_from (nat_le n WIDE_HEAD_PAGES) (list_all (λ m. nat_le m WIDE_HEAD_PAGES) ns) (le-leb n WIDE_HEAD_PAGES (omega arith)) (pages_below ns both.1)

-- a wide head can state every topology
pub wide_keeps : (t : Topology) → is_topology t ≡ true → keeps_limits Wide t ≡ true
wide_keeps t h =
    let L = has_shape t h in
    let few = L.few_nodes in
    and_from (nat_le (node_count t) WIDE_HEAD_NODES) (list_all (λ pages. nat_le pages WIDE_HEAD_PAGES) t.pages) (le-leb (node_count t) WIDE_HEAD_NODES (omega arith)) (pages_below t.pages L.pages)

-- and so can the version that formatting writes
pub version_keeps : (t : Topology) → is_topology t ≡ true → keeps_limits (version_for t) t ≡ true
version_keeps t h = elim (cases_Bool (keeps_limits Narrow t)) [
  | inl narrow ↦ ap (λ b. keeps_limits (cond b Narrow Wide) t) narrow ∙ narrow
  | inr wide ↦ ap (λ b. keeps_limits (cond b Narrow Wide) t) wide ∙ wide_keeps t h
]

-- ## What a topology has

pub wires_count : (t : Topology) → is_topology t ≡ true → length t.wires ≡ line_count t
wires_count t h = let L = has_shape t h in L.lines

-- ## The head

pub record HeadParts (bytes : List ℕ) (head : Head) : Type 0 where
  pub long : NARROW_HEAD_BYTES ≤ length bytes
  pub formatted : take 7 bytes ≡ magic
  pub version : version_of (u8_at bytes 7) ≡ Some head.version
  pub read : head_at head.version bytes ≡ head
  pub topology : is_topology head.topology ≡ true
  pub limits : keeps_limits head.version head.topology ≡ true
  pub front : take head.areas.first bytes ≡ head_bytes head.version head.topology head.areas
  pub room : fits_device (length bytes) head.topology head.areas ≡ true

-- the version that was found, and what is read by it
head_found : (found : Option HeadVersion) (bytes : List ℕ) (head : Head) → head_with found bytes ≡ Ok head
    → (version : HeadVersion) × (found ≡ Some version) × (is_head (head_at version bytes) bytes ≡ true) × (head_at version bytes ≡ head)
head_found None bytes head is = absurd (cc)
head_found (Some version) bytes head is =
    let c = or_fault (is_head (head_at version bytes) bytes) (Ok (head_at version bytes)) (Damaged 0) head is in
    (version, refl, c.0, (let both = c.1 in cc))

version_read : (version : HeadVersion) (bytes : List ℕ) (head : Head) → head_at version bytes ≡ head → version ≡ head.version
unfolding head_at
version_read version bytes head is = ap (λ (h : Head). h.version) is

pub head_parts : (bytes : List ℕ) (head : Head) → head_of bytes ≡ Ok head → HeadParts bytes head
unfolding head_of
head_parts bytes head is =
    let a = fault_or (not (nat_le NARROW_HEAD_BYTES (length bytes) && bytes_eq (take 7 bytes) magic)) NotFormatted _ head is in
    let made = and_parts (nat_le NARROW_HEAD_BYTES (length bytes)) (bytes_eq (take 7 bytes) magic) (not-false (nat_le NARROW_HEAD_BYTES (length bytes) && bytes_eq (take 7 bytes) magic) a.0) in
    let found = head_found (version_of (u8_at bytes 7)) bytes head a.1 in
    let same = version_read found.0 bytes head found.3 in
    let tests = subst (λ h. is_head h bytes ≡ true) found.3 found.2 in
    let d = and_parts (is_topology head.topology && keeps_limits head.version head.topology) _ tests in
    let said = and_parts (is_topology head.topology) (keeps_limits head.version head.topology) d.0 in
    let e = and_parts (bytes_eq (take head.areas.first bytes) (head_bytes head.version head.topology head.areas)) (fits_device (length bytes) head.topology head.areas) d.1 in
    record {
      long = leb-true NARROW_HEAD_BYTES (length bytes) made.0;
      formatted = (bytes_eq-Decides (take 7 bytes) magic).0 made.1;
      version = found.1 ∙ (λ i. Some (same i));
      read = subst (λ v. head_at v bytes ≡ head) same found.3;
      topology = said.0;
      limits = said.1;
      front = (bytes_eq-Decides (take head.areas.first bytes) (head_bytes head.version head.topology head.areas)).0 e.0;
      room = e.1;
    }

-- the head that bytes with an equal front say, if it has no more nodes than its version has fields for
pub head_at_same : (version : HeadVersion) (xs ys : List ℕ) → SameFront (head_length version) xs ys → u8_at xs 8 ≤ head_nodes version → head_at version ys ≡ head_at version xs
unfolding head_at
head_at_same version xs ys h few =
    let N = u8_at xs 8 in
    let size = head_length version in
    let place = ends_place version in
    let long = head_long version in
    let count : u8_at ys 8 ≡ N = sym (front_get size xs ys h 8 (omega arith)) in
    let ports : u8_at ys 9 ≡ u8_at xs 9 = sym (front_get size xs ys h 9 (omega arith)) in
    let area : u64_at ys 16 ≡ u64_at xs 16 = sym (u64_front 16 size xs ys (omega arith) h) in
    let pages : u16s_at N (drop 24 ys) ≡ u16s_at N (drop 24 xs) = sym (u16s_same N (drop 24 xs) (drop 24 ys) (front_part 24 (2 * N) size xs ys (pages_fit version N few) h)) in
    let part = front_part place (number_width version * (4 * N)) size xs ys (ends_fit version N few) h in
    let wires : numbers_at version (4 * N) (drop place ys) ≡ numbers_at version (4 * N) (drop place xs) = sym (numbers_same version (4 * N) (drop place xs) (drop place ys) part) in
    let all : u16s_at (u8_at ys 8) (drop 24 ys) ≡ u16s_at N (drop 24 xs) = ap (λ k. u16s_at k (drop 24 ys)) count ∙ pages in
    let ends : numbers_at version (4 * u8_at ys 8) (drop place ys) ≡ numbers_at version (4 * N) (drop place xs) = ap (λ k. numbers_at version (4 * k) (drop place ys)) count ∙ wires in
    λ i. record {
      version = version;
      topology = record { pages = all i; ports = ports i; wires = all_wires (count i) (ports i) (map (end_of_number version) (ends i)) };
      areas = areas_of_length version (area i);
    }

nodes_counted : (version : HeadVersion) (bytes : List ℕ) (head : Head) → head_at version bytes ≡ head → u8_at bytes 8 ≡ node_count head.topology
unfolding head_at
nodes_counted version bytes head is = sym (length-u16s_at (u8_at bytes 8) (drop 24 bytes)) ∙ ap (λ (h : Head). node_count h.topology) is

pub head_from : (bytes : List ℕ) (head : Head) → HeadParts bytes head → head_of bytes ≡ Ok head
unfolding head_of
head_from bytes head H =
    let same = bytes_eq (take head.areas.first bytes) (head_bytes head.version head.topology head.areas) in
    let room = fits_device (length bytes) head.topology head.areas in
    let made : (nat_le NARROW_HEAD_BYTES (length bytes) && bytes_eq (take 7 bytes) magic) ≡ true =
    and_from (nat_le NARROW_HEAD_BYTES (length bytes)) (bytes_eq (take 7 bytes) magic) (le-leb NARROW_HEAD_BYTES (length bytes) H.long) ((bytes_eq-Decides (take 7 bytes) magic).1 H.formatted) in
    let version = H.version in
    let tests : is_head head bytes ≡ true =
    and_from (is_topology head.topology && keeps_limits head.version head.topology) (same && room)
    (and_from (is_topology head.topology) (keeps_limits head.version head.topology) H.topology H.limits)
    (and_from same room ((bytes_eq-Decides (take head.areas.first bytes) (head_bytes head.version head.topology head.areas)).1 H.front) H.room) in
    let read = H.read in
    (λ i. cond (not (made i)) (Err NotFormatted) (head_with (version i) bytes))
    ∙ (λ i. cond (is_head (read i) bytes) (Ok (read i)) (Err (Damaged 0)))
    ∙ (λ i. cond (tests i) (Ok head) (Err (Damaged 0)))

-- Where the areas begin: after the head.
first_of : (version : HeadVersion) (bytes : List ℕ) (head : Head) → head_at version bytes ≡ head → head.areas.first ≡ head_length version
unfolding head_at
first_of version bytes head is = ap (λ (h : Head). h.areas.first) (sym is)

pub head_first : (bytes : List ℕ) (head : Head) → head_of bytes ≡ Ok head → head.areas.first ≡ head_length head.version
head_first bytes head is = first_of head.version bytes head (head_parts bytes head is).read

-- A device with equal first bytes, as long as the other, has its head.
pub head_same : (xs ys : List ℕ) (head : Head) → length ys ≡ length xs → SameFront head.areas.first xs ys → head_of xs ≡ Ok head → head_of ys ≡ Ok head
head_same xs ys head size h is =
    let H = head_parts xs head is in
    let v = head.version in
    let few = keeps_nodes v head.topology H.limits in
    let count = nodes_counted v xs head H.read in
    let whole : SameFront (head_length v) xs ys = subst (λ n. SameFront n xs ys) (head_first xs head is) h in
    let long = head_long v in
    let first = front_shorter 7 (head_length v) xs ys (omega arith) whole in
    head_from ys head (record {
      long = omega (arith, H.long);
      formatted = sym first.same ∙ H.formatted;
      version = ap version_of (sym (front_get (head_length v) xs ys whole 7 (omega arith))) ∙ H.version;
      read = head_at_same v xs ys whole (omega arith) ∙ H.read;
      topology = H.topology;
      limits = H.limits;
      front = sym h.same ∙ H.front;
      room = ap (λ n. fits_device n head.topology head.areas) size ∙ H.room;
    })

-- ## Where the areas are

pub record Layout (bytes : List ℕ) (areas : TwoAreas) : Type 0 where
  pub both : areas_end areas ≤ length bytes
  pub some : 1 ≤ areas.length

pub layout_of : (bytes : List ℕ) (head : Head) → HeadParts bytes head → Layout bytes head.areas
layout_of bytes head H =
    let a = and_parts (nat_le (areas_end head.areas) (length bytes)) (is_roomy head.topology head.areas.length) H.room in
    let wide = leb-true _ _ a.1 in
    record { both = leb-true (areas_end head.areas) (length bytes) a.0; some = omega arith }
