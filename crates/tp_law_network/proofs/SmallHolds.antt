-- The small format meets what the laws of runs ask of it.
use Rattle.std.proofs.Common.{◌≡◌, ℕ, zero, ◌+◌, ◌*◌, ◌<◌, ◌≤◌, ◌⊎◌, inl, inr, Bool, true, false, not, List, [], ◌∷◌, length, refl, sym, ap, subst, ◌∙◌, arith, le_refl, Some}
use Rattle.std.specs.Prelude.{◌==◌, nat_lt, nat_le, ◌||◌}
use Rattle.tp_law_network.proofs.Lower.{option_map, cases_Bool, both_ways, ltb-true, leb-false, or_parts, Entry, HostIn, GATE_OPEN, GATE_CLOSED, ◌>>=◌, Machine, Network, after, MayBe, written, AreasHold, Held, with_more, ArePossible, gate_open, none_or}
use Rattle.tp_law_network.proofs.Partial.{bind_some, map_some, cond_some}
use Rattle.tp_law_network.specs.Small.{small_byte, is_small_open, begins, current, entries_at, held_at, if_possible, small_verdict, behind, spare_of, open_of, spelt, group_of, other_of, small_areas}
use Rattle.tp_law_network.proofs.Moments.{length-written, get_or-written_outside, get_or-written_inside}
use Rattle.tp_law_network.proofs.Small.{same_gate, entries_most, entries_same, entries_added, entries_end, places, current_open, current_alone, current_later, current_same, Verdict, verdict_parts, verdict_from}

-- the place is outside the range
abbrev pub IsOut : ℕ × ℕ → ℕ → Type 0
IsOut range q = (q < range.0) ⊎ (range.0 + range.1 ≤ q)

-- the areas are apart
apart : (second : Bool) (q : ℕ) → begins second ≤ q → q < begins second + 9 → IsOut (begins (not second), 1) q
apart second q low high = elim (places second) [
  | inl first ↦ inl (let a = first.0 in let o = first.1 in omega arith)
  | inr last ↦ inr (let a = last.0 in let o = last.1 in omega arith)
]

-- outside a group that has a place
in_group : (second : Bool) (many q : ℕ) → many < 2 → (q ≤ begins second + 4 + 2 * many) ⊎ (begins second + 9 ≤ q) → IsOut (begins second + 4 + 2 * many + 1, 2) q
in_group second many q room (inl low) = inl (omega arith)
in_group second many q room (inr high) = inr (omega arith)

-- ## Bytes that another content shares

module _ {Node : Type 0} (M : Machine Node) (image : ℕ → Network Node) (bytes : List ℕ) (h : Held Node) (V : Verdict M image bytes h) where
  -- how many entries the current area has, and where its first closed gate is
  abbrev count : ℕ
  count = length (entries_at bytes 2 (begins V.second + 4))

  abbrev gate : ℕ
  gate = begins V.second + 4 + 2 * count

  most : count ≤ 2
  most = entries_most bytes 2 (begins V.second + 4)

  module _ (left : List ℕ) (size : length left ≡ length bytes) where
    -- the current area is as it was up to that gate
    abbrev HeadStays : Type 0
    HeadStays = (q : ℕ) → begins V.second ≤ q → q < gate → small_byte left q ≡ small_byte bytes q

    -- the other area's gate is closed, or it was open and the generation is as it was
    abbrev OtherStays : Type 0
    OtherStays = is_small_open left (begins (not V.second)) ≡ true
        → (is_small_open bytes (begins (not V.second)) ≡ true) × (small_byte left (begins (not V.second) + 1) ≡ small_byte bytes (begins (not V.second) + 1))

    own_open : HeadStays → is_small_open left (begins V.second) ≡ true
    own_open head = same_gate bytes left (begins V.second) (head (begins V.second) (le_refl (begins V.second)) (omega arith)) ∙ current_open bytes V.second V.is

    current_stays : HeadStays → OtherStays → current left ≡ Some V.second
    current_stays head other = elim (cases_Bool (is_small_open left (begins (not V.second)))) [
      | inr closed ↦ current_alone left V.second (own_open head) closed
      | inl opened ↦
          current_same bytes left V.second (own_open head ∙ sym (current_open bytes V.second V.is)) (opened ∙ sym (other opened).0)
          (head (begins V.second + 1) (omega arith) (omega arith)) (other opened).1
          ∙ V.is
    ]

    -- what was read is read again
    keeps : HeadStays → OtherStays → (count < 2 → is_small_open left gate ≡ false) → small_verdict M image left ≡ Some h
    keeps head other closed =
        let entries = entries_same bytes left 2 (begins V.second + 4) (λ q low high. head q (omega arith) high) closed in
        let base = head (begins V.second + 2) (omega arith) (omega arith) in
        let code = head (begins V.second + 3) (omega arith) (omega arith) in
        verdict_from M image left h (record {
          second = V.second;
          size = size ∙ V.size;
          is = current_stays head other;
          held = (λ i. record { network = image (code i); entries = entries i; base = base i }) ∙ V.held;
          last = V.last;
          possible = V.possible;
        })

    -- one entry more is read
    adds : (x : ℕ) → HeadStays → OtherStays → count < 2 → is_small_open left gate ≡ true → small_byte left (gate + 1) ≡ x → is_small_open left (gate + 2) ≡ false
        → ArePossible M h (HostIn 0 x ∷ []) → small_verdict M image left ≡ Some (with_more h (HostIn 0 x ∷ []))
    adds x head other room opened there closed possible =
        let entries = entries_added bytes left 2 (begins V.second + 4) x (λ q low high. head q (omega arith) high) room opened there closed in
        let base = head (begins V.second + 2) (omega arith) (omega arith) in
        let code = head (begins V.second + 3) (omega arith) (omega arith) in
        verdict_from M image left (with_more h (HostIn 0 x ∷ [])) (record {
          second = V.second;
          size = size ∙ V.size;
          is = current_stays head other;
          held = (λ i. record { network = image (code i); entries = entries i; base = base i }) ∙ ap (λ k. with_more k (HostIn 0 x ∷ [])) V.held;
          last = possible.last;
          possible = possible.is;
        })

    -- the other area is read
    switches : (k : Held Node) → HeadStays → is_small_open left (begins (not V.second)) ≡ true
        → small_byte bytes (begins V.second + 1) < small_byte bytes (begins (not V.second) + 1)
        → ((q : ℕ) → begins (not V.second) < q → q < begins (not V.second) + 9 → small_byte left q ≡ small_byte bytes q)
        → held_at image bytes (begins (not V.second)) ≡ k → (last : Network Node) → after M k.network k.entries ≡ Some last → small_verdict M image left ≡ Some k
    switches k head opened later same held last possible =
        let o = begins (not V.second) in
        let few = entries_most bytes 2 (o + 4) in
        let entries = entries_same bytes left 2 (o + 4) (λ q low high. same q (omega arith) (omega arith))
        (λ room. same_gate bytes left (o + 4 + 2 * length (entries_at bytes 2 (o + 4))) (same (o + 4 + 2 * length (entries_at bytes 2 (o + 4))) (omega arith) (omega arith)) ∙ entries_end bytes 2 (o + 4) room)
        in
        let base = same (o + 2) (omega arith) (omega arith) in
        let code = same (o + 3) (omega arith) (omega arith) in
        let own_age = head (begins V.second + 1) (omega arith) (omega arith) in
        let other_age = same (o + 1) (omega arith) (omega arith) in
        verdict_from M image left k (record {
          second = not V.second;
          size = size ∙ V.size;
          is = current_later left V.second (own_open head) opened (omega (arith, own_age, other_age, later));
          held = (λ i. record { network = image (code i); entries = entries i; base = base i }) ∙ held;
          last = last;
          possible = possible;
        })

  -- ## The range behind the other area's closed gate

  abbrev spare_now : ℕ × ℕ
  spare_now = spare_of bytes (current bytes)

  spare_is : spare_now ≡ behind (is_small_open bytes (begins (not V.second))) (begins (not V.second))
  spare_is = ap (spare_of bytes) V.is

  -- the current area and the other gate are outside it
  spare_apart : (q : ℕ) → ((begins V.second ≤ q) × (q < begins V.second + 9)) ⊎ (q ≡ begins (not V.second)) → IsOut spare_now q
  spare_apart q where_it_is = subst (λ range. IsOut range q) (sym spare_is) (go (is_small_open bytes (begins (not V.second))))
    where
      low_or_high : (q < begins (not V.second) + 1) ⊎ (begins (not V.second) + 9 ≤ q)
      low_or_high = elim (places V.second) [
        | inl first ↦ inl (let a = first.0 in let o = first.1 in omega arith)
        | inr last ↦ elim where_it_is [
          | inl inside ↦ inr (let a = last.0 in let o = last.1 in let l = inside.0 in omega arith)
          | inr here ↦ inl (omega arith)
        ]
      ]

      go : (b : Bool) → IsOut (behind b (begins (not V.second))) q
      go true = inr (omega arith)
      go false = elim low_or_high [ inl low ↦ inl low | inr high ↦ inr (omega arith) ]

  -- if the other gate is open it is empty
  spare_none : is_small_open bytes (begins (not V.second)) ≡ true → (q : ℕ) → IsOut spare_now q
  spare_none opened q = subst (λ range. IsOut range q) (sym (spare_is ∙ ap (λ b. behind b (begins (not V.second))) opened)) (inr (omega arith))

  spare_fits : spare_now.0 + spare_now.1 ≤ length bytes
  spare_fits = subst (λ range. range.0 + range.1 ≤ length bytes) (sym spare_is) (go (is_small_open bytes (begins (not V.second))))
    where
      go : (b : Bool) → (behind b (begins (not V.second))).0 + (behind b (begins (not V.second))).1 ≤ length bytes
      go true = omega arith
      go false = omega (arith, places V.second, V.size)

  -- ## Bytes that differ in that range, and in the current area after its first closed gate

  module _ (left : List ℕ) (size : length left ≡ length bytes)
      (same : (q : ℕ) → IsOut spare_now q → (q ≤ gate) ⊎ (begins V.second + 9 ≤ q) → small_byte left q ≡ small_byte bytes q) where
    loose_head : HeadStays left size
    loose_head q low high = same q (spare_apart q (inl (low, omega (arith, most)))) (inl (omega arith))

    loose_gate : is_small_open left (begins (not V.second)) ≡ is_small_open bytes (begins (not V.second))
    loose_gate = same_gate bytes left (begins (not V.second)) (same (begins (not V.second)) (spare_apart (begins (not V.second)) (inr refl)) beside)
      where
        beside : (begins (not V.second) ≤ gate) ⊎ (begins V.second + 9 ≤ begins (not V.second))
        beside = elim (places V.second) [
          | inl first ↦ inr (let a = first.0 in let o = first.1 in omega arith)
          | inr last ↦ inl (let a = last.0 in let o = last.1 in omega arith)
        ]

    loose_other : OtherStays left size
    loose_other opened = (was, same (begins (not V.second) + 1) (spare_none was (begins (not V.second) + 1)) beside)
      where
        was : is_small_open bytes (begins (not V.second)) ≡ true
        was = sym loose_gate ∙ opened

        beside : (begins (not V.second) + 1 ≤ gate) ⊎ (begins V.second + 9 ≤ begins (not V.second) + 1)
        beside = elim (places V.second) [
          | inl first ↦ inr (let a = first.0 in let o = first.1 in omega arith)
          | inr last ↦ inl (let a = last.0 in let o = last.1 in omega arith)
        ]

    loose_end : count < 2 → is_small_open left gate ≡ false
    loose_end room =
        same_gate bytes left gate (same gate (spare_apart gate (inl (omega arith, omega arith))) (inl (le_refl gate)))
        ∙ entries_end bytes 2 (begins V.second + 4) room

    loose_keeps : small_verdict M image left ≡ Some h
    loose_keeps = keeps left size loose_head loose_other loose_end

    loose_spare : spare_of left (current left) ≡ spare_now
    loose_spare = ap (spare_of left) (current_stays left size loose_head loose_other) ∙ ap (λ b. behind b (begins (not V.second))) loose_gate ∙ sym spare_is

  -- ## A group that is there, at any byte of its gate

  module _ (left : List ℕ) (size : length left ≡ length bytes) (x : ℕ) (room : count < 2)
      (same : (q : ℕ) → IsOut (gate, 1) q → small_byte left q ≡ small_byte (written bytes (gate + 1) (x ∷ GATE_CLOSED ∷ [])) q) where
    fits : gate + 1 + 2 ≤ length bytes
    fits = omega (arith, places V.second, V.size)

    -- outside the group
    group_outside : (q : ℕ) → (q < gate) ⊎ (gate + 3 ≤ q) → small_byte left q ≡ small_byte bytes q
    group_outside q (inl low) = same q (inl low) ∙ get_or-written_outside bytes (gate + 1) (x ∷ GATE_CLOSED ∷ []) fits q (inl (omega arith))
    group_outside q (inr high) = same q (inr (omega arith)) ∙ get_or-written_outside bytes (gate + 1) (x ∷ GATE_CLOSED ∷ []) fits q (inr (omega arith))

    group_head : HeadStays left size
    group_head q low high = group_outside q (inl high)

    group_other : OtherStays left size
    group_other opened = (
      sym (same_gate bytes left (begins (not V.second)) (group_outside (begins (not V.second)) (beside (begins (not V.second)) (le_refl (begins (not V.second))) (omega arith)))) ∙ opened,
      group_outside (begins (not V.second) + 1) (beside (begins (not V.second) + 1) (omega arith) (omega arith)),
    )
      where
        beside : (q : ℕ) → begins (not V.second) ≤ q → q < begins (not V.second) + 9 → (q < gate) ⊎ (gate + 3 ≤ q)
        beside q low high = elim (places V.second) [
          | inl first ↦ inr (let a = first.0 in let o = first.1 in omega arith)
          | inr last ↦ inl (let a = last.0 in let o = last.1 in omega arith)
        ]

    group_first : small_byte left (gate + 1) ≡ x
    group_first =
        same (gate + 1) (inr (le_refl (gate + 1)))
        ∙ ap (small_byte (written bytes (gate + 1) (x ∷ GATE_CLOSED ∷ []))) (omega arith)
        ∙ get_or-written_inside bytes (gate + 1) (x ∷ GATE_CLOSED ∷ []) fits 0 (omega arith)

    group_next : is_small_open left (gate + 2) ≡ false
    group_next = ap (λ byte. byte == GATE_OPEN) (
        same (gate + 2) (inr (omega arith))
        ∙ ap (small_byte (written bytes (gate + 1) (x ∷ GATE_CLOSED ∷ []))) (omega arith)
        ∙ get_or-written_inside bytes (gate + 1) (x ∷ GATE_CLOSED ∷ []) fits 1 (omega arith)
        )

    group_gate : ArePossible M h (HostIn 0 x ∷ []) → (small_verdict M image left ≡ Some h) ⊎ (small_verdict M image left ≡ Some (with_more h (HostIn 0 x ∷ [])))
    group_gate possible = elim (cases_Bool (is_small_open left gate)) [
      | inr closed ↦ inl (keeps left size group_head group_other (λ _. closed))
      | inl opened ↦ inr (adds left size x group_head group_other room opened group_first group_next possible)
    ]

  -- ## The other area, once all of it is written, at any byte of its gate

  module _ (left : List ℕ) (size : length left ≡ length bytes) (k : Held Node) (later : small_byte bytes (begins V.second + 1) < small_byte bytes (begins (not V.second) + 1))
      (held : held_at image bytes (begins (not V.second)) ≡ k) (last : Network Node) (possible : after M k.network k.entries ≡ Some last)
      (same : (q : ℕ) → IsOut (begins (not V.second), 1) q → small_byte left q ≡ small_byte bytes q) where
    switch_head : HeadStays left size
    switch_head q low high = same q (apart V.second q low (omega (arith, most)))

    switch_opened : is_small_open left (begins (not V.second)) ≡ true → small_verdict M image left ≡ Some k
    switch_opened opened = switches left size k switch_head opened later (λ q low high. same q (inr (omega arith))) held last possible

    switch_either : (small_verdict M image left ≡ Some h) ⊎ (small_verdict M image left ≡ Some k)
    switch_either = elim (cases_Bool (is_small_open left (begins (not V.second)))) [
      | inr closed ↦ inl (
          keeps left size switch_head (λ opened. absurd (both_ways (is_small_open left (begins (not V.second))) closed opened))
          (λ room. same_gate bytes left gate (same gate (apart V.second gate (omega arith) (omega arith))) ∙ entries_end bytes 2 (begins V.second + 4) room)
          )
      | inl opened ↦ inr (switch_opened opened)
    ]

-- ## What the format answers, taken apart

spelt_parts : (place many : ℕ) (es : List Entry) (r : ℕ × List ℕ) → spelt place many es ≡ Some r
    → (x : ℕ) × (es ≡ HostIn 0 x ∷ []) × (many < 2) × (r ≡ (place + 2 * many, x ∷ GATE_CLOSED ∷ []))
spelt_parts place many (HostIn zero x ∷ []) r is =
    let split = cond_some (nat_lt many 2) (Some (place + 2 * many, x ∷ GATE_CLOSED ∷ [])) r is in
    let same : (place + 2 * many, x ∷ GATE_CLOSED ∷ []) ≡ r = let both = split.1 in cc in
    (x, refl, ltb-true many 2 split.0, sym same)
spelt_parts place many es r is = cc

module _ {Node : Type 0} (M : Machine Node) (image : ℕ → Network Node) (bytes : List ℕ) (h : Held Node) (V : Verdict M image bytes h) where
  group_parts : (es : List Entry) (r : ℕ × List ℕ) → (current bytes >>= group_of bytes es) ≡ Some r
      → (x : ℕ) × (es ≡ HostIn 0 x ∷ []) × (count M image bytes h V < 2) × (r ≡ (gate M image bytes h V, x ∷ GATE_CLOSED ∷ []))
  group_parts es r is =
      spelt_parts (begins V.second + 4) (count M image bytes h V) es r (sym (ap (λ found. found >>= group_of bytes es) V.is) ∙ is)

  open_parts : (at : ℕ) → (current bytes >>= open_of bytes) ≡ Some at → (is_small_open bytes (begins (not V.second)) ≡ true) × (at ≡ begins (not V.second))
  open_parts at is =
      let split = cond_some (is_small_open bytes (begins (not V.second))) (Some (begins (not V.second))) at (sym (ap (λ found. found >>= open_of bytes) V.is) ∙ is) in
      let same : begins (not V.second) ≡ at = let both = split.1 in cc in
      (split.0, sym same)

  record Other (at : ℕ) (k : Held Node) : Type 0 where
    place : at ≡ begins (not V.second)
    later : small_byte bytes (begins V.second + 1) < small_byte bytes (begins (not V.second) + 1)
    held : held_at image bytes (begins (not V.second)) ≡ k
    last : Network Node
    possible : after M k.network k.entries ≡ Some last

  other_parts : (at : ℕ) (k : Held Node) → (current bytes >>= other_of M image bytes) ≡ Some (at, k) → Other at k
  other_parts at k is =
      let o = begins (not V.second) in
      let there = held_at image bytes o in
      let old = nat_le (small_byte bytes (o + 1)) (small_byte bytes (begins V.second + 1)) in
      let split = none_or (is_small_open bytes o || old) (option_map (λ held. (o, held)) (if_possible M there)) (at, k) (sym (ap (λ found. found >>= other_of M image bytes) V.is) ∙ is) in
      let tests = or_parts (is_small_open bytes o) old split.0 in
      let mapped = map_some (λ held. (o, held)) (if_possible M there) (at, k) split.1 in
      let done = bind_some (after M there.network there.entries) (λ last. Some there) mapped.0 mapped.1 in
      let one : there ≡ mapped.0 = let both = done.2 in cc in
      let same : there ≡ k = one ∙ ap (λ pair. pair.1) mapped.2 in
      record {
        place = ap (λ pair. pair.0) (sym mapped.2);
        later = leb-false (small_byte bytes (o + 1)) (small_byte bytes (begins V.second + 1)) tests.1;
        held = same;
        last = done.0;
        possible = subst (λ held. after M held.network held.entries ≡ Some done.0) same done.1;
      }

-- ## The eleven facts

module _ {Node : Type 0} (M : Machine Node) (image : ℕ → Network Node) where
  -- a group's bytes, at any byte of its gate
  small_gate : (bytes left : List ℕ) (h : Held Node) (es : List Entry) (place : ℕ) (body : List ℕ) → small_verdict M image bytes ≡ Some h
      → (current bytes >>= group_of bytes es) ≡ Some (place, body) → ArePossible M h es
      → MayBe (record { bytes = written bytes (place + 1) body; unsynced = (place, 1) ∷ [] }) left
      → (small_verdict M image left ≡ Some h) ⊎ (small_verdict M image left ≡ Some (with_more h es))
  small_gate bytes left h es place body reads group possible may =
      let V = verdict_parts M image bytes h reads in
      let S = group_parts M image bytes h V es (place, body) group in
      let moved = subst (λ r. MayBe (record { bytes = written bytes (r.0 + 1) r.1; unsynced = (r.0, 1) ∷ [] }) left) S.3 may in
      let size = length-written bytes (gate M image bytes h V + 1) (S.0 ∷ GATE_CLOSED ∷ []) (omega (arith, S.2, places V.second, V.size)) in
      subst (λ fs. (small_verdict M image left ≡ Some h) ⊎ (small_verdict M image left ≡ Some (with_more h fs))) (sym S.1)
      (group_gate M image bytes h V left (moved.same_length ∙ size) S.0 S.2 (λ q out. moved.same_outside q (out, tt)) (subst (ArePossible M h) S.1 possible))

  -- and at an open one
  small_added : (bytes : List ℕ) (h : Held Node) (es : List Entry) (place : ℕ) (body : List ℕ) → small_verdict M image bytes ≡ Some h
      → (current bytes >>= group_of bytes es) ≡ Some (place, body) → ArePossible M h es
      → small_verdict M image (written (written bytes (place + 1) body) place gate_open) ≡ Some (with_more h es)
  small_added bytes h es place body reads group possible =
      let V = verdict_parts M image bytes h reads in
      let S = group_parts M image bytes h V es (place, body) group in
      let at = gate M image bytes h V in
      let there = written bytes (at + 1) (S.0 ∷ GATE_CLOSED ∷ []) in
      let size : length there ≡ length bytes = length-written bytes (at + 1) (S.0 ∷ GATE_CLOSED ∷ []) (omega (arith, S.2, places V.second, V.size)) in
      let room : at + length gate_open ≤ length there = omega (arith, S.2, places V.second, V.size, size) in
      let left = written there at gate_open in
      let opened : small_byte left at ≡ GATE_OPEN = ap (small_byte left) (omega arith) ∙ get_or-written_inside there at gate_open room 0 (omega arith) in
      let same : (q : ℕ) → IsOut (at, 1) q → small_byte left q ≡ small_byte there q = get_or-written_outside there at gate_open room in
      let long : length left ≡ length bytes = length-written there at gate_open room ∙ size in
      subst (λ r. small_verdict M image (written (written bytes (r.0 + 1) r.1) r.0 gate_open) ≡ Some (with_more h es)) (sym S.3)
      (subst (λ fs. small_verdict M image left ≡ Some (with_more h fs)) (sym S.1)
      (adds M image bytes h V left long S.0
      (group_head M image bytes h V left long S.0 S.2 same)
      (group_other M image bytes h V left long S.0 S.2 same)
      S.2
      (ap (λ byte. byte == GATE_OPEN) opened)
      (group_first M image bytes h V left long S.0 S.2 same)
      (group_next M image bytes h V left long S.0 S.2 same)
      (subst (ArePossible M h) S.1 possible)))

  -- the other area's gate is written closed
  small_clear : (bytes left : List ℕ) (h : Held Node) (at : ℕ) → small_verdict M image bytes ≡ Some h → (current bytes >>= open_of bytes) ≡ Some at
      → MayBe (record { bytes = bytes; unsynced = spare_of bytes (current bytes) ∷ (at, 1) ∷ [] }) left → small_verdict M image left ≡ Some h
  small_clear bytes left h at reads was may =
      let V = verdict_parts M image bytes h reads in
      let S = open_parts M image bytes h V at was in
      let o = begins (not V.second) in
      let same : (q : ℕ) → IsOut (o, 1) q → small_byte left q ≡ small_byte bytes q =
      λ q out. may.same_outside q (spare_none M image bytes h V S.0 q, (subst (λ place. IsOut (place, 1) q) (sym S.1) out, tt))
      in
      let area : (q : ℕ) → begins V.second ≤ q → q < begins V.second + 9 → small_byte left q ≡ small_byte bytes q = λ q low high. same q (apart V.second q low high) in
      let few = entries_most bytes 2 (begins V.second + 4) in
      keeps M image bytes h V left may.same_length
      (λ q low high. area q low (omega arith))
      (λ opened. (S.0, same (o + 1) (inr (le_refl (o + 1)))))
      (λ room. same_gate bytes left (gate M image bytes h V) (area (gate M image bytes h V) (omega arith) (omega arith)) ∙ entries_end bytes 2 (begins V.second + 4) room)

  -- and open, at any byte
  small_switch : (bytes left : List ℕ) (h k : Held Node) (at : ℕ) → small_verdict M image bytes ≡ Some h → (current bytes >>= other_of M image bytes) ≡ Some (at, k)
      → MayBe (record { bytes = bytes; unsynced = (at, 1) ∷ [] }) left → (small_verdict M image left ≡ Some h) ⊎ (small_verdict M image left ≡ Some k)
  small_switch bytes left h k at reads other may =
      let V = verdict_parts M image bytes h reads in
      let S = other_parts M image bytes h V at k other in
      switch_either M image bytes h V left may.same_length k S.later S.held S.last S.possible
      (λ q out. may.same_outside q (subst (λ place. IsOut (place, 1) q) (sym S.place) out, tt))

  small_switched : (bytes : List ℕ) (h k : Held Node) (at : ℕ) → small_verdict M image bytes ≡ Some h → (current bytes >>= other_of M image bytes) ≡ Some (at, k)
      → small_verdict M image (written bytes at gate_open) ≡ Some k
  small_switched bytes h k at reads other =
      let V = verdict_parts M image bytes h reads in
      let S = other_parts M image bytes h V at k other in
      let o = begins (not V.second) in
      let room : o + length gate_open ≤ length bytes = omega (arith, places V.second, V.size) in
      let left = written bytes o gate_open in
      let opened : small_byte left o ≡ GATE_OPEN = ap (small_byte left) (omega arith) ∙ get_or-written_inside bytes o gate_open room 0 (omega arith) in
      subst (λ place. small_verdict M image (written bytes place gate_open) ≡ Some k) (sym S.place)
      (switch_opened M image bytes h V left (length-written bytes o gate_open room) k S.later S.held S.last S.possible
      (get_or-written_outside bytes o gate_open room) (ap (λ byte. byte == GATE_OPEN) opened))

  -- The small format meets all of them.
  pub small_holds : AreasHold M (small_areas M image)
  small_holds = record {
    spare = λ bytes left h reads may.
        let V = verdict_parts M image bytes h reads in (
          loose_keeps M image bytes h V left may.same_length (λ q out beside. may.same_outside q (out, tt)),
          loose_spare M image bytes h V left may.same_length (λ q out beside. may.same_outside q (out, tt)),
        );
    spare_room = λ bytes h reads. spare_fits M image bytes h (verdict_parts M image bytes h reads);
    body = λ bytes left h es place body reads group may.
        let V = verdict_parts M image bytes h reads in
        let S = group_parts M image bytes h V es (place, body) group in
        loose_keeps M image bytes h V left may.same_length
        (λ q out beside. may.same_outside q (out, (subst (λ r. IsOut (r.0 + 1, length r.1) q) (sym S.3) (in_group V.second (count M image bytes h V) q S.2 beside), tt)));
    body_room = λ bytes h es place body reads group.
        let V = verdict_parts M image bytes h reads in
        let S = group_parts M image bytes h V es (place, body) group in
        subst (λ r. r.0 + 1 + length r.1 ≤ length bytes) (sym S.3) (omega (arith, S.2, places V.second, V.size));
    gate = small_gate;
    added = small_added;
    clear = small_clear;
    clear_room = λ bytes h at reads was.
        let V = verdict_parts M image bytes h reads in
        let S = open_parts M image bytes h V at was in
        omega (arith, S.1, places V.second, V.size);
    switch = small_switch;
    switched = small_switched;
    switch_room = λ bytes h k at reads other.
        let V = verdict_parts M image bytes h reads in
        let S = other_parts M image bytes h V at k other in
        omega (arith, S.place, places V.second, V.size);
  }
