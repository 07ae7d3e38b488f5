-- The other area's gate is written closed, and open.
use Rattle.std.proofs.Common.{◌≡◌, ℕ, ◌+◌, ◌<◌, ◌≤◌, ◌⊎◌, inl, inr, true, false, not, List, [], ◌∷◌, length, get_or, refl, sym, ap, subst, ◌∙◌, arith, Some, Result, Ok, Err}
use Rattle.std.specs.Prelude.{nat_lt}
use Rattle.tp_law_device.proofs.Lower.{cases_Bool, both_ways, ltb-true, OpenFault, GATE_OPEN, TwoAreas, NodeState, Machine, EndsSeen, Held, gate_open, area_start, content_of, is_open, MayBe, written, Opened, held_of, area_in, opening, other_is_open, other_content, spare_of, open_other_of, if_newer, other_of, none_or, length-written, get_or-written_outside, get_or-written_inside, IsOut}
use Rattle.std.proofs.lemmas.Option.{cond_some}
use Rattle.tp_law_device.proofs.Chosen.{open_in}
use Rattle.tp_law_device.proofs.Contents.{places, age_same}
use Rattle.tp_law_device.proofs.Opens.{Reads, held_in, held_from, layout, end_within, end_low, end_shut, HeadStays, OwnStays, keeps, switches, found_in}
use Rattle.tp_law_device.proofs.Spare.{spare_none}

-- ## Bytes that differ at the other area's gate

module _ (M : Machine NodeState) (E : EndsSeen NodeState) (bytes : List ℕ) (o : Opened) (R : Reads M E bytes o) where
  abbrev areas : TwoAreas
  areas = o.head.areas

  abbrev own : ℕ
  own = area_start o.head.areas o.second

  abbrev other : ℕ
  other = area_start o.head.areas (not o.second)

  pub other_within : other + 1 ≤ length bytes
  other_within = let L = layout M E bytes o R in omega (arith, places areas o.second, L.both, L.some)

  module _ (left : List ℕ) (size : length left ≡ length bytes) (same : (q : ℕ) → IsOut (other, 1) q → get_or left q 0 ≡ get_or bytes q 0) where
    -- the chosen area is apart
    apart : (q : ℕ) → own ≤ q → q < own + areas.length → IsOut (other, 1) q
    apart q low high = elim (places areas o.second) [
      | inl first ↦ inl (let a = first.0 in let b = first.1 in omega arith)
      | inr last ↦ inr (let a = last.0 in let b = last.1 in let L = layout M E bytes o R in omega (arith, L.some))
    ]

    gate_head : HeadStays M E bytes o R left size
    gate_head q low = same q (inl (omega (arith, places areas o.second)))

    gate_own : OwnStays M E bytes o R left size
    gate_own q low high = same q (apart q low (omega (arith, end_within M E bytes o R)))

    gate_end : is_open (get_or left o.end 0) ≡ false
    gate_end = ap (λ byte. is_open byte) (same o.end (apart o.end (omega (arith, end_low M E bytes o R)) (end_within M E bytes o R))) ∙ end_shut M E bytes o R

    -- if it was open, or is closed, what was read is read again
    pub gate_keeps : (open_in areas left (not o.second) ≡ true → open_in areas bytes (not o.second) ≡ true) → opening M E left ≡ Ok o
    gate_keeps was = keeps M E bytes o R left size gate_head gate_own
        (λ opened. (was opened, age_same areas (not o.second) bytes left (omega (arith, end_low M E bytes o R, end_within M E bytes o R)) size (λ q low high. same q (inr (omega arith)))))
        gate_end

    -- if it is open and the area is of higher generation, that area is read
    pub gate_switches : (k : Opened) → area_in M E o.head (not o.second) (content_of areas (not o.second) bytes) ≡ Ok k → o.generation < k.generation
        → open_in areas left (not o.second) ≡ true → opening M E left ≡ Ok k
    gate_switches k read later opened = switches M E bytes o R left size k gate_head gate_own read later (λ q low high. same q (inr (omega arith))) opened

-- ## Closed

-- the other gate's place, if that is open
record OpenOther (o : Opened) (bytes : List ℕ) (at : ℕ) : Type 0 where
  opened : open_in o.head.areas bytes (not o.second) ≡ true
  place : at ≡ area_start o.head.areas (not o.second)

open_found : (o : Opened) (bytes : List ℕ) (at : ℕ) → open_other_of (Ok o) bytes ≡ Some at → OpenOther o bytes at
unfolding open_other_of
open_found o bytes at is =
    let found = cond_some (other_is_open o bytes) (area_start o.head.areas (not o.second)) at is in
    record { opened = found.0; place = sym found.1 }

pub clear_holds : (M : Machine NodeState) (E : EndsSeen NodeState) (bytes left : List ℕ) (h : Held NodeState) (at : ℕ) → held_in (opening M E bytes) ≡ Some h
    → open_other_of (opening M E bytes) bytes ≡ Some at
    → MayBe (record { bytes = bytes; unsynced = spare_of (opening M E bytes) bytes ∷ (at, 1) ∷ [] }) left
    → held_in (opening M E left) ≡ Some h
clear_holds M E bytes left h at reads was may =
    let F = found_in M E bytes h reads in
    let o = F.opened in
    let S = open_found o bytes at (ap (λ found. open_other_of found bytes) (sym F.is) ∙ was) in
    held_from (opening M E left) o h
    (gate_keeps M E bytes o F.reads left may.same_length
    (λ q out. may.same_outside q (spare_none M E bytes o F.is F.reads S.opened q, (subst (λ place. IsOut (place, 1) q) (sym S.place) out, tt)))
    (λ opened. S.opened))
    F.holds

pub clear_has_room : (M : Machine NodeState) (E : EndsSeen NodeState) (bytes : List ℕ) (h : Held NodeState) (at : ℕ) → held_in (opening M E bytes) ≡ Some h
    → open_other_of (opening M E bytes) bytes ≡ Some at → at + 1 ≤ length bytes
clear_has_room M E bytes h at reads was =
    let F = found_in M E bytes h reads in
    let S = open_found F.opened bytes at (ap (λ found. open_other_of found bytes) (sym F.is) ∙ was) in
    omega (arith, S.place, other_within M E bytes F.opened F.reads)

-- ## Open

-- the other area as it is once its gate is open
record Other (M : Machine NodeState) (E : EndsSeen NodeState) (o : Opened) (bytes : List ℕ) (at : ℕ) (k : Held NodeState) : Type 0 where
  closed : open_in o.head.areas bytes (not o.second) ≡ false
  place : at ≡ area_start o.head.areas (not o.second)
  next : Opened
  read : area_in M E o.head (not o.second) (content_of o.head.areas (not o.second) bytes) ≡ Ok next
  later : o.generation < next.generation
  holds : held_of next ≡ k

newer_found : (o : Opened) (found : Result Opened OpenFault) (at : ℕ) (k : Held NodeState) → if_newer o found ≡ Some (at, k)
    → (next : Opened) × (found ≡ Ok next) × (o.generation < next.generation) × (area_start o.head.areas (not o.second) ≡ at) × (held_of next ≡ k)
newer_found o (Err fault) at k is = cc
newer_found o (Ok next) at k is =
    let found = cond_some (nat_lt o.generation next.generation) (area_start o.head.areas (not o.second), held_of next) (at, k) is in
    (next, refl, ltb-true o.generation next.generation found.0, ap (λ pair. pair.0) found.1, ap (λ pair. pair.1) found.1)

other_found : (M : Machine NodeState) (E : EndsSeen NodeState) (o : Opened) (bytes : List ℕ) (at : ℕ) (k : Held NodeState) → other_of M E (Ok o) bytes ≡ Some (at, k) → Other M E o bytes at k
unfolding other_of
other_found M E o bytes at k is =
    let split = none_or (other_is_open o bytes) (if_newer o (area_in M E o.head (not o.second) (other_content o bytes))) (at, k) is in
    let newer = newer_found o (area_in M E o.head (not o.second) (other_content o bytes)) at k split.1 in
    record {
      closed = split.0;
      place = sym newer.3;
      next = newer.0;
      read = newer.1;
      later = newer.2;
      holds = newer.4;
    }

pub switch_holds : (M : Machine NodeState) (E : EndsSeen NodeState) (bytes left : List ℕ) (h k : Held NodeState) (at : ℕ) → held_in (opening M E bytes) ≡ Some h
    → other_of M E (opening M E bytes) bytes ≡ Some (at, k) → MayBe (record { bytes = bytes; unsynced = (at, 1) ∷ [] }) left
    → (held_in (opening M E left) ≡ Some h) ⊎ (held_in (opening M E left) ≡ Some k)
switch_holds M E bytes left h k at reads is may =
    let F = found_in M E bytes h reads in
    let o = F.opened in
    let S = other_found M E o bytes at k (ap (λ found. other_of M E found bytes) (sym F.is) ∙ is) in
    let same : (q : ℕ) → IsOut (area_start o.head.areas (not o.second), 1) q → get_or left q 0 ≡ get_or bytes q 0 =
    λ q out. may.same_outside q (subst (λ place. IsOut (place, 1) q) (sym S.place) out, tt) in
    elim (cases_Bool (open_in o.head.areas left (not o.second))) [
      | inr shut ↦ inl (held_from (opening M E left) o h (gate_keeps M E bytes o F.reads left may.same_length same (λ opened. absurd (both_ways (open_in o.head.areas left (not o.second)) shut opened))) F.holds)
      | inl opened ↦ inr (held_from (opening M E left) S.next k (gate_switches M E bytes o F.reads left may.same_length same S.next S.read S.later opened) S.holds)
    ]

pub switched_holds : (M : Machine NodeState) (E : EndsSeen NodeState) (bytes : List ℕ) (h k : Held NodeState) (at : ℕ) → held_in (opening M E bytes) ≡ Some h
    → other_of M E (opening M E bytes) bytes ≡ Some (at, k) → held_in (opening M E (written bytes at gate_open)) ≡ Some k
switched_holds M E bytes h k at reads is =
    let F = found_in M E bytes h reads in
    let o = F.opened in
    let S = other_found M E o bytes at k (ap (λ found. other_of M E found bytes) (sym F.is) ∙ is) in
    let place = area_start o.head.areas (not o.second) in
    let room : place + length gate_open ≤ length bytes = omega (arith, other_within M E bytes o F.reads) in
    let left = written bytes place gate_open in
    let opened : get_or left place 0 ≡ GATE_OPEN = ap (λ q. get_or left q 0) (omega arith) ∙ get_or-written_inside bytes place gate_open room 0 (omega arith) in
    subst (λ p. held_in (opening M E (written bytes p gate_open)) ≡ Some k) (sym S.place)
    (held_from (opening M E left) S.next k
    (gate_switches M E bytes o F.reads left (length-written bytes place gate_open room) (get_or-written_outside bytes place gate_open room) S.next S.read S.later (ap (λ byte. is_open byte) opened))
    S.holds)

pub switch_has_room : (M : Machine NodeState) (E : EndsSeen NodeState) (bytes : List ℕ) (h k : Held NodeState) (at : ℕ) → held_in (opening M E bytes) ≡ Some h
    → other_of M E (opening M E bytes) bytes ≡ Some (at, k) → at + 1 ≤ length bytes
switch_has_room M E bytes h k at reads is =
    let F = found_in M E bytes h reads in
    let S = other_found M E F.opened bytes at k (ap (λ found. other_of M E found bytes) (sym F.is) ∙ is) in
    omega (arith, S.place, other_within M E bytes F.opened F.reads)
