-- A group is written after its closed gate, and then its gate is opened.
use Rattle.std.proofs.Common.{◌≡◌, ℕ, ◌+◌, ◌<◌, ◌≤◌, ◌⊎◌, inl, inr, true, false, not, List, [], ◌∷◌, length, get_or, refl, sym, ap, subst, ◌∙◌, arith, le_refl, Some, Ok}
use Rattle.tp_law_device.proofs.Lower.{cases_Bool, eqb-true, TwoAreas, Entry, GATE_OPEN, NodeState, Machine, EndsSeen, Held, with_more, ArePossible, gate_open, area_start, is_open, MayBe, written, rows_of, group_body, Opened, next_of, held_of, opening, numbered, can_add, spare_of, group_of, length-written, get_or-written_outside, get_or-written_inside, IsOut}
use Rattle.std.proofs.lemmas.Option.{cond_some}
use Rattle.tp_law_device.proofs.Contents.{places, age_same}
use Rattle.tp_law_device.proofs.Listings.{length-group_body}
use Rattle.tp_law_device.proofs.AreaReads.{group_can}
use Rattle.tp_law_device.proofs.Opens.{Reads, held_in, held_from, layout, end_within, end_low, HeadStays, OwnStays, OtherStays, keeps, adds, found_in}
use Rattle.tp_law_device.proofs.Spare.{loose_keeps}

-- what follows the gate
abbrev pub body_of : Opened → List Entry → List ℕ
body_of o es = group_body (rows_of (numbered (next_of o) es))

-- a group that can be written: where its gate is, what follows the gate, and that there is room for that
pub record Written (o : Opened) (es : List Entry) (gate : ℕ) (body : List ℕ) : Type 0 where
  pub can : can_add o (numbered (next_of o) es) ≡ true
  pub gate_is : gate ≡ o.end
  pub body_is : body ≡ body_of o es
  pub room : o.end + 1 + length (body_of o es) ≤ area_start o.head.areas o.second + o.head.areas.length

group_written : (o : Opened) (es : List Entry) (gate : ℕ) (body : List ℕ) → group_of (Ok o) es ≡ Some (gate, body) → Written o es gate body
unfolding group_of
group_written o es gate body is =
    let found = cond_some (can_add o (numbered (next_of o) es)) (o.end, body_of o es) (gate, body) is in
    let C = group_can o es found.0 in
    let long = length-group_body (numbered (next_of o) es) C.is in
    record {
      can = found.0;
      gate_is = ap (λ pair. pair.0) (sym found.1);
      body_is = ap (λ pair. pair.1) (sym found.1);
      room = omega (arith, C.room);
    }

pub written_in : (M : Machine NodeState) (E : EndsSeen NodeState) (bytes : List ℕ) (o : Opened) (es : List Entry) (gate : ℕ) (body : List ℕ) → opening M E bytes ≡ Ok o
    → group_of (opening M E bytes) es ≡ Some (gate, body) → Written o es gate body
written_in M E bytes o es gate body is group = group_written o es gate body (ap (λ found. group_of found es) (sym is) ∙ group)

-- ## The bytes of a group, whatever of them is there

pub body_holds : (M : Machine NodeState) (E : EndsSeen NodeState) (bytes left : List ℕ) (h : Held NodeState) (es : List Entry) (gate : ℕ) (body : List ℕ) → held_in (opening M E bytes) ≡ Some h
    → group_of (opening M E bytes) es ≡ Some (gate, body)
    → MayBe (record { bytes = bytes; unsynced = spare_of (opening M E bytes) bytes ∷ (gate + 1, length body) ∷ [] }) left
    → held_in (opening M E left) ≡ Some h
body_holds M E bytes left h es gate body reads group may =
    let F = found_in M E bytes h reads in
    let o = F.opened in
    let W = written_in M E bytes o es gate body F.is group in
    let same_length : length body ≡ length (body_of o es) = ap length W.body_is in
    let outside : (q : ℕ) → (q ≤ o.end) ⊎ (area_start o.head.areas o.second + o.head.areas.length ≤ q) → IsOut (gate + 1, length body) q =
    λ q beside. elim beside [ inl low ↦ inl (let g = W.gate_is in omega arith) | inr high ↦ inr (let g = W.gate_is in let r = W.room in omega arith) ] in
    held_from (opening M E left) o h
    (loose_keeps M E bytes o F.is F.reads left may.same_length (λ q out beside. may.same_outside q (out, (outside q beside, tt))))
    F.holds

pub body_has_room : (M : Machine NodeState) (E : EndsSeen NodeState) (bytes : List ℕ) (h : Held NodeState) (es : List Entry) (gate : ℕ) (body : List ℕ) → held_in (opening M E bytes) ≡ Some h
    → group_of (opening M E bytes) es ≡ Some (gate, body) → gate + 1 + length body ≤ length bytes
body_has_room M E bytes h es gate body reads group =
    let F = found_in M E bytes h reads in
    let o = F.opened in
    let W = written_in M E bytes o es gate body F.is group in
    let L = layout M E bytes o F.reads in
    omega (arith, ap length W.body_is, W.gate_is, W.room, L.both, places o.head.areas o.second)

-- ## A group that is there, at any byte of its gate

module _ (M : Machine NodeState) (E : EndsSeen NodeState) (bytes : List ℕ) (o : Opened) (R : Reads M E bytes o) (es : List Entry)
    (room : o.end + 1 + length (body_of o es) ≤ area_start o.head.areas o.second + o.head.areas.length) where
  abbrev areas : TwoAreas
  areas = o.head.areas

  abbrev other : ℕ
  other = area_start o.head.areas (not o.second)

  abbrev body : List ℕ
  body = body_of o es

  -- the device with the group's bytes
  abbrev there : List ℕ
  there = written bytes (o.end + 1) body

  fits : o.end + 1 + length body ≤ length bytes
  fits = let L = layout M E bytes o R in omega (arith, L.both, places areas o.second)

  module _ (left : List ℕ) (size : length left ≡ length bytes) (same : (q : ℕ) → IsOut (o.end, 1) q → get_or left q 0 ≡ get_or there q 0) where
    -- outside the group
    group_outside : (q : ℕ) → (q < o.end) ⊎ (o.end + 1 + length body ≤ q) → get_or left q 0 ≡ get_or bytes q 0
    group_outside q (inl low) = same q (inl low) ∙ get_or-written_outside bytes (o.end + 1) body fits q (inl (omega arith))
    group_outside q (inr high) = same q (inr (omega arith)) ∙ get_or-written_outside bytes (o.end + 1) body fits q (inr high)

    group_head : HeadStays M E bytes o R left size
    group_head q low = group_outside q (inl (omega (arith, end_low M E bytes o R, places areas o.second)))

    group_own : OwnStays M E bytes o R left size
    group_own q low high = group_outside q (inl high)

    beside : (q : ℕ) → other ≤ q → q < other + 9 → (q < o.end) ⊎ (o.end + 1 + length body ≤ q)
    beside q low high = elim (places areas o.second) [
      | inl first ↦ inr (let a = first.0 in let b = first.1 in omega arith)
      | inr last ↦ inl (let a = last.0 in let b = last.1 in omega (arith, end_low M E bytes o R, end_within M E bytes o R))
    ]

    group_other : OtherStays M E bytes o R left size
    group_other opened = (
      sym (ap (λ byte. is_open byte) (group_outside other (beside other (le_refl other) (omega arith)))) ∙ opened,
      age_same areas (not o.second) bytes left (omega (arith, end_low M E bytes o R, end_within M E bytes o R)) size (λ q low high. group_outside q (beside q (omega arith) (omega arith))),
    )

    group_there : (k : ℕ) → k < length body → get_or left (o.end + 1 + k) 0 ≡ get_or body k 0
    group_there k low = same (o.end + 1 + k) (inr (omega arith)) ∙ get_or-written_inside bytes (o.end + 1) body fits k low

    -- it is read if its gate is open
    group_adds : can_add o (numbered (next_of o) es) ≡ true → ArePossible M (held_of o) es → get_or left o.end 0 ≡ GATE_OPEN
        → held_in (opening M E left) ≡ Some (with_more (held_of o) es)
    group_adds can possible opened = adds M E bytes o R left size es possible.last group_head group_own group_other possible.is can opened group_there

    group_keeps : is_open (get_or left o.end 0) ≡ false → held_in (opening M E left) ≡ Some (held_of o)
    group_keeps shut = held_from (opening M E left) o (held_of o) (keeps M E bytes o R left size group_head group_own group_other shut) refl

    group_either : can_add o (numbered (next_of o) es) ≡ true → ArePossible M (held_of o) es
        → (held_in (opening M E left) ≡ Some (held_of o)) ⊎ (held_in (opening M E left) ≡ Some (with_more (held_of o) es))
    group_either can possible = elim (cases_Bool (is_open (get_or left o.end 0))) [
      | inr shut ↦ inl (group_keeps shut)
      | inl opened ↦ inr (group_adds can possible (eqb-true (get_or left o.end 0) GATE_OPEN opened))
    ]

pub gate_holds : (M : Machine NodeState) (E : EndsSeen NodeState) (bytes left : List ℕ) (h : Held NodeState) (es : List Entry) (gate : ℕ) (body : List ℕ) → held_in (opening M E bytes) ≡ Some h
    → group_of (opening M E bytes) es ≡ Some (gate, body) → ArePossible M h es
    → MayBe (record { bytes = written bytes (gate + 1) body; unsynced = (gate, 1) ∷ [] }) left
    → (held_in (opening M E left) ≡ Some h) ⊎ (held_in (opening M E left) ≡ Some (with_more h es))
gate_holds M E bytes left h es gate body reads group possible may =
    let F = found_in M E bytes h reads in
    let o = F.opened in
    let W = written_in M E bytes o es gate body F.is group in
    let moved = subst (λ place. MayBe (record { bytes = written bytes (place + 1) (body_of o es); unsynced = (place, 1) ∷ [] }) left) W.gate_is
    (subst (λ xs. MayBe (record { bytes = written bytes (gate + 1) xs; unsynced = (gate, 1) ∷ [] }) left) W.body_is may) in
    let size = length-written bytes (o.end + 1) (body_of o es) (fits M E bytes o F.reads es W.room) in
    subst (λ k. (held_in (opening M E left) ≡ Some k) ⊎ (held_in (opening M E left) ≡ Some (with_more k es))) F.holds
    (group_either M E bytes o F.reads es W.room left (moved.same_length ∙ size) (λ q out. moved.same_outside q (out, tt)) W.can (subst (λ k. ArePossible M k es) (sym F.holds) possible))

pub added_holds : (M : Machine NodeState) (E : EndsSeen NodeState) (bytes : List ℕ) (h : Held NodeState) (es : List Entry) (gate : ℕ) (body : List ℕ) → held_in (opening M E bytes) ≡ Some h
    → group_of (opening M E bytes) es ≡ Some (gate, body) → ArePossible M h es
    → held_in (opening M E (written (written bytes (gate + 1) body) gate gate_open)) ≡ Some (with_more h es)
added_holds M E bytes h es gate body reads group possible =
    let F = found_in M E bytes h reads in
    let o = F.opened in
    let W = written_in M E bytes o es gate body F.is group in
    let room = fits M E bytes o F.reads es W.room in
    let there = written bytes (o.end + 1) (body_of o es) in
    let size : length there ≡ length bytes = length-written bytes (o.end + 1) (body_of o es) room in
    let place : o.end + length gate_open ≤ length there = omega arith in
    let left = written there o.end gate_open in
    let opened : get_or left o.end 0 ≡ GATE_OPEN = ap (λ q. get_or left q 0) (omega arith) ∙ get_or-written_inside there o.end gate_open place 0 (omega arith) in
    let long : length left ≡ length bytes = length-written there o.end gate_open place ∙ size in
    subst (λ g. held_in (opening M E (written (written bytes (g + 1) body) g gate_open)) ≡ Some (with_more h es)) (sym W.gate_is)
    (subst (λ xs. held_in (opening M E (written (written bytes (o.end + 1) xs) o.end gate_open)) ≡ Some (with_more h es)) (sym W.body_is)
    (subst (λ k. held_in (opening M E left) ≡ Some (with_more k es)) F.holds
    (group_adds M E bytes o F.reads es W.room left long (get_or-written_outside there o.end gate_open place) W.can (subst (λ k. ArePossible M k es) (sym F.holds) possible) opened)))
