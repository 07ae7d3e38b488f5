-- Opening reads neither the range after the other area's closed gate nor what comes after the first closed gate of the groups.
use Rattle.std.proofs.Common.{◌≡◌, ℕ, ◌+◌, ◌-◌, ◌<◌, ◌≤◌, ◌⊎◌, inl, inr, Bool, true, false, not, cond, List, [], ◌∷◌, length, get_or, refl, sym, ap, subst, ◌∙◌, arith, le_refl, Some, Ok}
use Rattle.tp_law_device.proofs.Lower.{TwoAreas, NodeState, Machine, EndsSeen, Held, area_start, is_open, MayBe, Opened, opening, spare_of, IsOut}
use Rattle.tp_law_device.proofs.Chosen.{open_in}
use Rattle.tp_law_device.proofs.Contents.{places, age_same}
use Rattle.tp_law_device.proofs.Opens.{Reads, held_in, held_from, layout, end_within, end_low, end_shut, HeadStays, OwnStays, OtherStays, keeps, found_in}

-- the range, by whether the other area is open
abbrev pub range_of : Opened → Bool → ℕ × ℕ
range_of o opened = cond opened (0, 0) (area_start o.head.areas (not o.second) + 1, o.head.areas.length - 1)

spare_found : (o : Opened) (bytes : List ℕ) → spare_of (Ok o) bytes ≡ range_of o (open_in o.head.areas bytes (not o.second))
unfolding spare_of
spare_found o bytes = refl

module _ (M : Machine NodeState) (E : EndsSeen NodeState) (bytes : List ℕ) (o : Opened) (is : opening M E bytes ≡ Ok o) (R : Reads M E bytes o) where
  abbrev areas : TwoAreas
  areas = o.head.areas

  abbrev own : ℕ
  own = area_start o.head.areas o.second

  abbrev other : ℕ
  other = area_start o.head.areas (not o.second)

  abbrev pub spare_now : ℕ × ℕ
  spare_now = spare_of (opening M E bytes) bytes

  spare_is : spare_now ≡ range_of o (open_in o.head.areas bytes (not o.second))
  spare_is = ap (λ found. spare_of found bytes) is ∙ spare_found o bytes

  -- the head, the chosen area and the other gate are outside it
  spare_apart : (q : ℕ) → (q < areas.first) ⊎ (((own ≤ q) × (q < own + areas.length)) ⊎ (q ≡ other)) → IsOut spare_now q
  spare_apart q there = subst (λ range. IsOut range q) (sym spare_is) (go (open_in areas bytes (not o.second)))
    where
      low_or_high : (q < other + 1) ⊎ (other + areas.length ≤ q)
      low_or_high = elim (places areas o.second) [
        | inl first ↦ inl (omega (arith, first, there))
        | inr last ↦ elim there [
          | inl low ↦ inl (let a = last.1 in omega arith)
          | inr rest ↦ elim rest [
            | inl inside ↦ inr (let a = last.0 in let b = last.1 in let c = inside.0 in omega arith)
            | inr here ↦ inl (omega arith)
          ]
        ]
      ]

      go : (opened : Bool) → IsOut (range_of o opened) q
      go true = inr (omega arith)
      go false = elim low_or_high [ inl low ↦ inl low | inr high ↦ inr (let some = layout M E bytes o R in omega (arith, some.some)) ]

  -- if the other gate is open it is empty
  pub spare_none : open_in areas bytes (not o.second) ≡ true → (q : ℕ) → IsOut spare_now q
  spare_none opened q = subst (λ range. IsOut range q) (sym (spare_is ∙ ap (range_of o) opened)) (inr (omega arith))

  pub spare_fits : spare_now.0 + spare_now.1 ≤ length bytes
  spare_fits = subst (λ range. range.0 + range.1 ≤ length bytes) (sym spare_is) (go (open_in areas bytes (not o.second)))
    where
      go : (opened : Bool) → (range_of o opened).0 + (range_of o opened).1 ≤ length bytes
      go true = omega arith
      go false = let L = layout M E bytes o R in omega (arith, places areas o.second, L.both, L.some)

  -- ## Bytes that differ there, and in the chosen area after its first closed gate

  module _ (left : List ℕ) (size : length left ≡ length bytes)
      (same : (q : ℕ) → IsOut spare_now q → (q ≤ o.end) ⊎ (own + areas.length ≤ q) → get_or left q 0 ≡ get_or bytes q 0) where
    loose_head : HeadStays M E bytes o R left size
    loose_head q low = same q (spare_apart q (inl low)) (inl (omega (arith, end_low M E bytes o R, places areas o.second)))

    loose_own : OwnStays M E bytes o R left size
    loose_own q low high = same q (spare_apart q (inr (inl (low, omega (arith, end_within M E bytes o R))))) (inl (omega arith))

    -- a place of the other area's front
    beside : (q : ℕ) → other ≤ q → q < other + 9 → (q ≤ o.end) ⊎ (own + areas.length ≤ q)
    beside q low high = elim (places areas o.second) [
      | inl first ↦ inr (let a = first.0 in let b = first.1 in omega arith)
      | inr last ↦ inl (let a = last.0 in let b = last.1 in omega (arith, end_low M E bytes o R, end_within M E bytes o R))
    ]

    pub loose_gate : open_in areas left (not o.second) ≡ open_in areas bytes (not o.second)
    loose_gate = ap (λ byte. is_open byte) (same other (spare_apart other (inr (inr refl))) (beside other (le_refl other) (omega arith)))

    loose_other : OtherStays M E bytes o R left size
    loose_other opened = (was, age_same areas (not o.second) bytes left (omega (arith, end_low M E bytes o R, end_within M E bytes o R)) size (λ q low high. same q (spare_none was q) (beside q (omega arith) (omega arith))))
      where
        was : open_in areas bytes (not o.second) ≡ true
        was = sym loose_gate ∙ opened

    loose_end : is_open (get_or left o.end 0) ≡ false
    loose_end =
        ap (λ byte. is_open byte) (same o.end (spare_apart o.end (inr (inl (omega (arith, end_low M E bytes o R), end_within M E bytes o R)))) (inl (le_refl o.end)))
        ∙ end_shut M E bytes o R

    pub loose_keeps : opening M E left ≡ Ok o
    loose_keeps = keeps M E bytes o R left size loose_head loose_own loose_other loose_end

    pub loose_spare : spare_of (opening M E left) left ≡ spare_now
    loose_spare = ap (λ found. spare_of found left) loose_keeps ∙ spare_found o left ∙ ap (range_of o) loose_gate ∙ sym spare_is

-- Any bytes after the other area's closed gate.
pub spare_holds : (M : Machine NodeState) (E : EndsSeen NodeState) (bytes left : List ℕ) (h : Held NodeState) → held_in (opening M E bytes) ≡ Some h
    → MayBe (record { bytes = bytes; unsynced = spare_of (opening M E bytes) bytes ∷ [] }) left
    → (held_in (opening M E left) ≡ Some h) × (spare_of (opening M E left) left ≡ spare_of (opening M E bytes) bytes)
spare_holds M E bytes left h reads may =
    let F = found_in M E bytes h reads in
    let stays = λ (q : ℕ) (out : IsOut (spare_of (opening M E bytes) bytes) q) (beside : (q ≤ F.opened.end) ⊎ (area_start F.opened.head.areas F.opened.second + F.opened.head.areas.length ≤ q)). may.same_outside q (out, tt) in (
      held_from (opening M E left) F.opened h (loose_keeps M E bytes F.opened F.is F.reads left may.same_length stays) F.holds,
      loose_spare M E bytes F.opened F.is F.reads left may.same_length stays,
    )

pub spare_has_room : (M : Machine NodeState) (E : EndsSeen NodeState) (bytes : List ℕ) (h : Held NodeState) → held_in (opening M E bytes) ≡ Some h
    → (spare_of (opening M E bytes) bytes).0 + (spare_of (opening M E bytes) bytes).1 ≤ length bytes
spare_has_room M E bytes h reads =
    let F = found_in M E bytes h reads in
    spare_fits M E bytes F.opened F.is F.reads
