-- What opening answers of bytes that are equal to others where it reads them.
use Rattle.std.proofs.Common.{◌≡◌, ℕ, zero, suc, ◌+◌, ◌-◌, ◌<◌, ◌≤◌, inl, inr, Bool, true, false, not, List, ◌∷◌, ◌++◌, length, drop, get_or, sym, ap, subst, ◌∙◌, arith, le_refl, Option, Some, Result, Ok}
use Rattle.std.specs.Prelude.{◌==◌, map}
use Rattle.tp_law_device.proofs.Lower.{option_map, result_ok, cases_Bool, get_or-drop, TwoAreas, Entry, OpenFault, GATE_OPEN, ◌>>=◌, NodeState, Machine, Network, after, EndsSeen, line_count, Held, with_more, area_start, content_of, is_open, generation_of, rows_of, group_length, group_body, Head, head_of, Opened, next_of, held_of, groups_place, chosen_area, area_in, opening, numbered, can_add, map_some}
use Rattle.tp_law_device.proofs.Faults.{bind_ok, result_ok_some}
use Rattle.tp_law_device.proofs.Fronts.{SameFront, front_from}
use Rattle.tp_law_device.proofs.Heads.{HeadParts, head_parts, head_same, wires_count, Layout, layout_of}
use Rattle.tp_law_device.proofs.Listings.{length-group_body}
use Rattle.tp_law_device.proofs.AreaReads.{AreaParts, area_parts, ends, before, end_is, before_within, area_keeps, area_adds, group_can}
use Rattle.tp_law_device.proofs.Chosen.{open_in, age_in, chosen_open, chosen_alone, chosen_later, chosen_same}
use Rattle.tp_law_device.proofs.Contents.{places, length-content_of, get_or-content_of, content_front, content_same, age_same, drop_there}

-- ## Opening taken apart

pub record Reads (M : Machine NodeState) (E : EndsSeen NodeState) (bytes : List ℕ) (o : Opened) : Type 0 where
  pub head : head_of bytes ≡ Ok o.head
  pub chosen : chosen_area o.head.areas bytes ≡ Ok o.second
  pub area : area_in M E o.head o.second (content_of o.head.areas o.second bytes) ≡ Ok o

pub reads_of : (M : Machine NodeState) (E : EndsSeen NodeState) (bytes : List ℕ) (o : Opened) → opening M E bytes ≡ Ok o → Reads M E bytes o
unfolding opening
reads_of M E bytes o is =
    let h = bind_ok (head_of bytes) _ o is in
    let c = bind_ok (chosen_area h.0.areas bytes) _ o h.2 in
    let A = area_parts M E h.0 c.0 (content_of h.0.areas c.0 bytes) o c.2 in
    let head_is : h.0 ≡ o.head = ap (λ (p : Opened). p.head) A.is in
    let second_is : c.0 ≡ o.second = ap (λ (p : Opened). p.second) A.is in
    record {
      head = h.1 ∙ (λ i. Ok (head_is i));
      chosen = subst (λ (head : Head). chosen_area head.areas bytes ≡ Ok c.0) head_is c.1 ∙ (λ i. Ok (second_is i));
      area =
          subst (λ (second : Bool). area_in M E o.head second (content_of o.head.areas second bytes) ≡ Ok o) second_is
          (subst (λ (head : Head). area_in M E head c.0 (content_of head.areas c.0 bytes) ≡ Ok o) head_is c.2);
    }

pub opening_from : (M : Machine NodeState) (E : EndsSeen NodeState) (bytes : List ℕ) (head : Head) (second : Bool) (o : Opened)
    → head_of bytes ≡ Ok head → chosen_area head.areas bytes ≡ Ok second → area_in M E head second (content_of head.areas second bytes) ≡ Ok o → opening M E bytes ≡ Ok o
unfolding opening
opening_from M E bytes head second o head_is chosen_is area_is =
    (λ i. head_is i >>= λ h. chosen_area h.areas bytes >>= λ s. area_in M E h s (content_of h.areas s bytes))
    ∙ (λ i. chosen_is i >>= λ s. area_in M E head s (content_of head.areas s bytes))
    ∙ area_is

-- ## What is held

abbrev pub held_in : Result Opened OpenFault → Option (Held NodeState)
held_in found = option_map held_of (result_ok found)

pub held_opened : (found : Result Opened OpenFault) (h : Held NodeState) → held_in found ≡ Some h → (o : Opened) × (found ≡ Ok o) × (held_of o ≡ h)
held_opened found h is =
    let m = map_some held_of (result_ok found) h is in
    (m.0, result_ok_some found m.0 m.1, m.2)

pub held_from : (found : Result Opened OpenFault) (o : Opened) (h : Held NodeState) → found ≡ Ok o → held_of o ≡ h → held_in found ≡ Some h
held_from found o h is holds = ap held_in is ∙ (λ i. Some (holds i))

-- ## Bytes that another device shares

module _ (M : Machine NodeState) (E : EndsSeen NodeState) (bytes : List ℕ) (o : Opened) (R : Reads M E bytes o) where
  abbrev pub areas : TwoAreas
  areas = o.head.areas

  abbrev pub own : ℕ
  own = area_start o.head.areas o.second

  abbrev pub other : ℕ
  other = area_start o.head.areas (not o.second)

  abbrev content : List ℕ
  content = content_of o.head.areas o.second bytes

  head_is : HeadParts bytes o.head
  head_is = head_parts bytes o.head R.head

  pub layout : Layout bytes o.head.areas
  layout = layout_of bytes o.head head_is

  wires_are : length o.head.topology.wires ≡ line_count o.head.topology
  wires_are = wires_count o.head.topology head_is.topology

  parts : AreaParts M E o.head o.second content o
  parts = area_parts M E o.head o.second content o R.area

  -- how many bytes of the content are before its first closed gate
  abbrev count : ℕ
  count = before M E o.head o.second content o parts wires_are

  size_content : length content ≡ areas.length - 1
  size_content = length-content_of areas o.second bytes (omega (arith, places areas o.second, layout.both))

  count_within : count < areas.length - 1
  count_within = omega (arith, before_within M E o.head o.second content o parts wires_are, size_content)

  end_place : o.end ≡ own + 1 + count
  end_place = end_is M E o.head o.second content o parts wires_are ∙ omega arith

  pub end_within : o.end < own + areas.length
  end_within = omega (arith, end_place, count_within)

  pub end_low : own + 20 < o.end
  end_low = omega (arith, end_place)

  -- that gate is closed
  pub end_shut : is_open (get_or bytes o.end 0) ≡ false
  end_shut =
      let gate = ends M E o.head o.second content o parts wires_are in
      ap (λ byte. byte == GATE_OPEN)
      (ap (λ place. get_or bytes place 0) end_place ∙ sym (get_or-content_of areas o.second bytes count count_within) ∙ sym (get_or-drop (groups_place o.head.topology) content gate.gate 0))
      ∙ gate.shut

  module _ (left : List ℕ) (size : length left ≡ length bytes) where
    -- the head is what it was
    abbrev pub HeadStays : Type 0
    HeadStays = (q : ℕ) → q < areas.first → get_or left q 0 ≡ get_or bytes q 0

    -- the area is what it was up to that gate
    abbrev pub OwnStays : Type 0
    OwnStays = (q : ℕ) → own ≤ q → q < o.end → get_or left q 0 ≡ get_or bytes q 0

    -- the other area is closed, or it was open and has the generation that it had
    abbrev pub OtherStays : Type 0
    OtherStays = open_in areas left (not o.second) ≡ true → (open_in areas bytes (not o.second) ≡ true) × (age_in areas left (not o.second) ≡ age_in areas bytes (not o.second))

    head_stays : HeadStays → head_of left ≡ Ok o.head
    head_stays same = head_same bytes left o.head size (front_from areas.first bytes left (sym size) (λ i low. sym (same i low))) R.head

    own_open : OwnStays → open_in areas left o.second ≡ true
    own_open same = ap (λ byte. is_open byte) (same own (le_refl own) (omega (arith, end_low))) ∙ chosen_open areas bytes o.second R.chosen

    own_age : OwnStays → age_in areas left o.second ≡ age_in areas bytes o.second
    own_age same = age_same areas o.second bytes left (omega (arith, count_within)) size (λ q low high. same q (omega arith) (omega (arith, end_low)))

    chosen_stays : OwnStays → OtherStays → chosen_area areas left ≡ Ok o.second
    chosen_stays same rest = elim (cases_Bool (open_in areas left (not o.second))) [
      | inr closed ↦ chosen_alone areas left o.second (own_open same) closed
      | inl opened ↦
          chosen_same areas bytes left o.second (own_open same ∙ sym (chosen_open areas bytes o.second R.chosen)) (opened ∙ sym (rest opened).0) (own_age same) (rest opened).1
          ∙ R.chosen
    ]

    new_size : length (content_of areas o.second left) ≡ length content
    new_size = length-content_of areas o.second left (omega (arith, places areas o.second, layout.both, size)) ∙ sym size_content

    new_front : OwnStays → SameFront count content (content_of areas o.second left)
    new_front same = content_front areas o.second bytes left count (omega (arith, count_within)) size (λ q low high. same q (omega arith) (omega (arith, end_place)))

    -- What was read is read again.
    pub keeps : HeadStays → OwnStays → OtherStays → is_open (get_or left o.end 0) ≡ false → opening M E left ≡ Ok o
    keeps head same rest closed =
        let gate : get_or (content_of areas o.second left) count 0 ≡ get_or left o.end 0 = get_or-content_of areas o.second left count count_within ∙ ap (λ place. get_or left place 0) (sym end_place) in
        opening_from M E left o.head o.second o (head_stays head) (chosen_stays same rest)
        (area_keeps M E o.head o.second content o parts wires_are (content_of areas o.second left) new_size (new_front same) (ap (λ byte. byte == GATE_OPEN) gate ∙ closed))

    -- A group more is read.
    pub adds : (es : List Entry) (last : Network NodeState) → HeadStays → OwnStays → OtherStays → after M o.cut (map (λ e. e.0) o.kept ++ es) ≡ Some last
        → can_add o (numbered (next_of o) es) ≡ true → get_or left o.end 0 ≡ GATE_OPEN
        → ((k : ℕ) → k < length (group_body (rows_of (numbered (next_of o) es))) → get_or left (o.end + 1 + k) 0 ≡ get_or (group_body (rows_of (numbered (next_of o) es))) k 0)
        → held_in (opening M E left) ≡ Some (with_more (held_of o) es)
    adds es last head same rest possible can opened there =
        let new = content_of areas o.second left in
        let C = group_can o es can in
        let body = group_body (rows_of (numbered (next_of o) es)) in
        let long : length body ≡ group_length (length (numbered (next_of o) es)) = length-group_body (numbered (next_of o) es) C.is in
        let room : count + suc (length body) ≤ areas.length - 1 = omega (arith, C.room, end_place) in
        let behind = drop_there new (GATE_OPEN ∷ body) count (omega (arith, new_size, size_content)) (behind_gate body room opened there) in
        let added = area_adds M E o.head o.second content o parts wires_are new new_size (new_front same) es last (drop (suc (length body)) (drop count new)) possible can behind in
        held_from (opening M E left) added.0 (with_more (held_of o) es) (opening_from M E left o.head o.second added.0 (head_stays head) (chosen_stays same rest) added.1) added.2
      where
        behind_gate : (body : List ℕ) → count + suc (length body) ≤ areas.length - 1 → get_or left o.end 0 ≡ GATE_OPEN
            → ((k : ℕ) → k < length body → get_or left (o.end + 1 + k) 0 ≡ get_or body k 0)
            → (k : ℕ) → k < suc (length body) → get_or (content_of areas o.second left) (count + k) 0 ≡ get_or (GATE_OPEN ∷ body) k 0
        behind_gate body room opened there zero low =
            get_or-content_of areas o.second left (count + 0) (omega arith) ∙ ap (λ place. get_or left place 0) (omega (arith, end_place)) ∙ opened
        behind_gate body room opened there (suc k) low =
            get_or-content_of areas o.second left (count + suc k) (omega arith) ∙ ap (λ place. get_or left place 0) (omega (arith, end_place)) ∙ there k (omega arith)

    -- The other area is read.
    pub switches : (k : Opened) → HeadStays → OwnStays → area_in M E o.head (not o.second) (content_of areas (not o.second) bytes) ≡ Ok k → o.generation < k.generation
        → ((q : ℕ) → other + 1 ≤ q → q < other + areas.length → get_or left q 0 ≡ get_or bytes q 0)
        → open_in areas left (not o.second) ≡ true → opening M E left ≡ Ok k
    switches k head same read later there opened =
        let K = area_parts M E o.head (not o.second) (content_of areas (not o.second) bytes) k read in
        let mine : age_in areas bytes o.second ≡ o.generation = ap (λ (p : Opened). p.generation) parts.is in
        let theirs : age_in areas bytes (not o.second) ≡ k.generation = ap (λ (p : Opened). p.generation) K.is in
        let new : content_of areas (not o.second) left ≡ content_of areas (not o.second) bytes = content_same areas (not o.second) bytes left size (λ q low high. there q low (omega (arith, layout.some))) in
        let new_age : age_in areas left (not o.second) ≡ age_in areas bytes (not o.second) = ap generation_of new in
        opening_from M E left o.head (not o.second) k (head_stays head)
        (chosen_later areas left o.second (own_open same) opened (omega (arith, own_age same, mine, theirs, new_age)))
        (ap (area_in M E o.head (not o.second)) new ∙ read)

-- ## A device that opens

pub record Found (M : Machine NodeState) (E : EndsSeen NodeState) (bytes : List ℕ) (h : Held NodeState) : Type 0 where
  pub opened : Opened
  pub is : opening M E bytes ≡ Ok opened
  pub holds : held_of opened ≡ h
  pub reads : Reads M E bytes opened

pub found_in : (M : Machine NodeState) (E : EndsSeen NodeState) (bytes : List ℕ) (h : Held NodeState) → held_in (opening M E bytes) ≡ Some h → Found M E bytes h
found_in M E bytes h is =
    let o = held_opened (opening M E bytes) h is in
    record { opened = o.0; is = o.1; holds = o.2; reads = reads_of M E bytes o.0 o.1 }
