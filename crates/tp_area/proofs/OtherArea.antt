-- The area that isn't open may hold anything, as long as its gate is closed.
use Rattle.std.proofs.Common.{◌≡◌, ℕ, ◌+◌, ◌-◌, ◌<◌, ◌≤◌, inl, inr, Bool, true, false, List, [], ◌∷◌, length, take, drop, get_or, refl, sym, ap, subst, ◌∙◌, arith, add-zero, Some, None, Result, Ok, Err, OnOk, OnErr}
use Rattle.std.specs.Prelude.{not, nat_lt, if◌then◌else◌}
use Rattle.tp_area.proofs.Lower.{cond-false, eq-eqb, ne_eqb, cond_some, same_Some, drop_more, get_or-drop, OpenFault, TwoAreas, AREA_HEAD_BYTES, GATE_CLOSED, u8_at, NodeState, t414, t414_ends, area_start, areas_end, gate_of, content_of, is_open, generation_of, Moment, MayBe, Write, Sync, Read, SameOutside, IsWithin, written, done, within, State, MomentPassed, Fails, IsSynced, LeavesOnly, all_done, Called, Broke, clear_calls, switch_calls, Held, gate_closed, Opened, held_of, area_in, chosen_area, choice, opening, verdict, base_of, form_of, device_areas, open_other_of, spare_of, other_of, if_newer, other_is_open, other_start, other_content, RestsBetweenGroups, put_may, put_done, written_same_outside, same_apart, called_one, called_then, broke_one, broke_first, broke_later, weaker, call_leaves, calls_leave}
use Rattle.tp_area.specs.declared.place.Place.{Place}
use Rattle.tp_area.specs.Places.{cut_field, listed, place_in, place_at}
use Rattle.tp_area.specs.Other.{other_gate, if_open, OtherIsClosed, Cleared, PutBehind, Switched}
use Rattle.tp_area.specs.Crashes.{StandsOpened, OpensToEither, RestsAs}
use Rattle.tp_area.proofs.SameFront.{areas_same, front_of_range}
use Rattle.tp_area.proofs.Behind.{head_ends}
use Rattle.tp_area.proofs.Frames.{drop_written}
use Rattle.tp_area.proofs.Placed.{content_at, found_at, head_long, is_placed, place_is}
use Rattle.tp_area.proofs.OpenedPlace.{opening_place}
use Rattle.tp_area.proofs.StoreCrashes.{keep, held_ok, rests_cleared, within_clear, within_switch}

-- ## The choice

own_is_open : (at : ℕ) (a b second : Bool) (first other : ℕ) → choice at a b first other ≡ Ok second → (if second then b else a) ≡ true
own_is_open at true true false first other h = refl
own_is_open at true true true first other h = refl
own_is_open at true false false first other h = refl
own_is_open at true false true first other h = cc
own_is_open at false true true first other h = refl
own_is_open at false true false first other h = cc
own_is_open at false false second first other h = cc

-- the own gate is open and the other one is closed
alone : (at : ℕ) (a b second : Bool) (first other : ℕ) → (if second then b else a) ≡ true → (if second then a else b) ≡ false → choice at a b first other ≡ Ok second
alone at true false false first other own shut = refl
alone at false true true first other own shut = refl
alone at true true false first other own shut = cc
alone at true true true first other own shut = cc
alone at true false true first other own shut = cc
alone at false true false first other own shut = cc
alone at false false false first other own shut = cc
alone at false false true first other own shut = cc

-- ## What may change

-- a range in the other area
pub record InOther (place : Place) (at count : ℕ) : Type 0 where
  pub from : other_gate place ≤ at
  pub upto : at + count ≤ other_gate place + place.areas.length

pub own_gate_same : (areas : TwoAreas) (second : Bool) (at count : ℕ) (old new : List ℕ) → 1 ≤ areas.length → area_start areas (not second) ≤ at → at + count ≤ area_start areas (not second) + areas.length
    → SameOutside at count old new → gate_of areas second new ≡ gate_of areas second old
own_gate_same areas false at count old new some low high same = same.same areas.first (inl (omega arith))
own_gate_same areas true at count old new some low high same = same.same (areas.first + areas.length) (inr (omega arith))

pub own_content_stays : (areas : TwoAreas) (second : Bool) (at count : ℕ) (old new : List ℕ) → 1 ≤ areas.length → area_start areas (not second) ≤ at → at + count ≤ area_start areas (not second) + areas.length
    → SameOutside at count old new → content_of areas second new ≡ content_of areas second old
own_content_stays areas false at count old new some low high same = same_apart at count old new (areas.first + 1) (areas.length - 1) same (inl (omega arith))
own_content_stays areas true at count old new some low high same = same_apart at count old new (areas.first + areas.length + 1) (areas.length - 1) same (inr (omega arith))

pub own_open : (areas : TwoAreas) (second : Bool) (bytes : List ℕ) → chosen_area areas bytes ≡ Ok second → is_open (gate_of areas second bytes) ≡ true
unfolding chosen_area
own_open areas false bytes h = own_is_open (area_start areas true) (is_open (gate_of areas false bytes)) (is_open (gate_of areas true bytes)) false _ _ h
own_open areas true bytes h = own_is_open (area_start areas true) (is_open (gate_of areas false bytes)) (is_open (gate_of areas true bytes)) true _ _ h

chosen_alone : (areas : TwoAreas) (second : Bool) (bytes : List ℕ) → is_open (gate_of areas second bytes) ≡ true → is_open (gate_of areas (not second) bytes) ≡ false → chosen_area areas bytes ≡ Ok second
unfolding chosen_area
chosen_alone areas false bytes own shut = alone (area_start areas true) (is_open (gate_of areas false bytes)) (is_open (gate_of areas true bytes)) false _ _ own shut
chosen_alone areas true bytes own shut = alone (area_start areas true) (is_open (gate_of areas false bytes)) (is_open (gate_of areas true bytes)) true _ _ own shut

-- the place stays, whatever is written there, while that gate is closed
pub place_stays : (place : Place) (bytes new : List ℕ) (at count : ℕ) → 1 ≤ place.areas.length → place_in bytes ≡ Some place → InOther place at count → SameOutside at count bytes new
    → is_open (gate_of place.areas (not place.second) new) ≡ false → place_in new ≡ Some place
place_stays place bytes new at count some said lies same shut =
    let is = is_placed bytes place said in
    let low = lies.from in
    let start = head_ends place.areas (not place.second) in
    let long = head_long place bytes is in
    let content = own_content_stays place.areas place.second at count bytes new some lies.from lies.upto same in
    let gate = own_gate_same place.areas place.second at count bytes new some lies.from lies.upto same in
    let found : found_at place new ≡ found_at place bytes = ap (listed (area_start place.areas place.second + 1)) content in
    place_is place new (record {
      areas = areas_same at bytes new (omega arith) (front_of_range at count bytes new same) ∙ is.areas;
      room = subst (λ n. areas_end place.areas ≤ n) (sym same.same_length) is.room;
      second = chosen_alone place.areas place.second new (ap is_open gate ∙ own_open place.areas place.second bytes is.second) shut;
      closed = ap (λ l. l.is_closed) found ∙ is.closed;
      cut = subst (λ xs. 8 ≤ cut_field xs) (sym content) is.cut;
      generation = ap generation_of content ∙ is.generation;
      form = ap form_of content ∙ is.form;
      end = ap (λ l. l.end) found ∙ is.end;
      next = ap (λ xs. base_of xs + length (found_at place new).rows) content ∙ ap (λ l. base_of (content_at place bytes) + length l.rows) found ∙ is.next;
    })

-- ## Inside the device

pub areas_fit : (areas : TwoAreas) (size : ℕ) (second : Bool) → areas_end areas ≤ size → area_start areas second + areas.length ≤ size
areas_fit areas size false room = omega arith
areas_fit areas size true room = omega arith

pub some_area : (areas : TwoAreas) (end : ℕ) (second : Bool) → area_start areas second + AREA_HEAD_BYTES ≤ end → end < area_start areas second + areas.length → 1 ≤ areas.length
some_area areas end second low high = omega arith

pub gate_inside : (areas : TwoAreas) (size gate end : ℕ) (second : Bool) → gate ≡ area_start areas (not second) → areas_end areas ≤ size → area_start areas second + AREA_HEAD_BYTES ≤ end → end < area_start areas second + areas.length
    → gate + 1 ≤ size
gate_inside areas size gate end second is room low high =
    let some = some_area areas end second low high in
    let fit = areas_fit areas size (not second) room in
    omega arith

pub piece_inside : (place : Place) (size at count : ℕ) → areas_end place.areas ≤ size → at + count < place.areas.length → other_gate place + 1 + at + count ≤ size
piece_inside place size at count room small = let fit = areas_fit place.areas size (not place.second) room in omega arith

-- ## Closing the gate

opened_gate : (gate : ℕ) (found bytes : List ℕ) → gate < length bytes → found ≡ take 1 (drop gate bytes) → get_or found 0 0 ≡ 165 → is_open (u8_at bytes gate) ≡ true
opened_gate gate found bytes inside was same =
    let byte : get_or found 0 0 ≡ u8_at bytes gate = ap (λ xs. get_or xs 0 0) (was ∙ ap (take 1) (drop_more bytes gate 0 inside)) in
    ap is_open (sym byte) ∙ eq-eqb (get_or found 0 0) 165 same

pub looked_open : (gate : ℕ) (found : List ℕ) (s t u : State) → gate < length s.now.bytes → found ≡ take 1 (drop gate s.now.bytes) → get_or found 0 0 ≡ 165
    → t.now ≡ done Read s.now → MomentPassed s t → Called (Write gate gate_closed ∷ Sync ∷ []) t u → Called (clear_calls (if_open gate s.now.bytes)) s u
looked_open gate found s t u inside was same now goes called =
    subst (λ b. Called (clear_calls (if b then Some gate else None)) s u) (sym (opened_gate gate found s.now.bytes inside was same))
    (called_then (Read ∷ []) (Write gate gate_closed ∷ Sync ∷ []) s t u (called_one Read s t now goes) called)

pub looked_closed : (gate : ℕ) (found : List ℕ) (s t : State) → gate < length s.now.bytes → found ≡ take 1 (drop gate s.now.bytes) → (get_or found 0 0 ≡ 165 → ⊥)
    → t.now ≡ done Read s.now → MomentPassed s t → Called (clear_calls (if_open gate s.now.bytes)) s t
looked_closed gate found s t inside was other now goes =
    let byte : get_or found 0 0 ≡ u8_at s.now.bytes gate = ap (λ xs. get_or xs 0 0) (was ∙ ap (take 1) (drop_more s.now.bytes gate 0 inside)) in
    subst (λ b. Called (clear_calls (if b then Some gate else None)) s t) (sym (ap is_open (sym byte) ∙ ne_eqb (get_or found 0 0) 165 other)) (called_one Read s t now goes)

pub look_broke : (gate : ℕ) (s t : State) → MomentPassed s t → Fails Read s t → Broke (clear_calls (if_open gate s.now.bytes)) s t
look_broke gate s t goes failed = go (is_open (u8_at s.now.bytes gate))
  where
    go : (b : Bool) → Broke (clear_calls (if b then Some gate else None)) s t
    go true = broke_first (Read ∷ []) (Write gate gate_closed ∷ Sync ∷ []) s t (broke_one Read s t goes failed)
    go false = broke_one Read s t goes failed

pub close_broke : (gate : ℕ) (found : List ℕ) (s t u : State) → gate < length s.now.bytes → found ≡ take 1 (drop gate s.now.bytes) → get_or found 0 0 ≡ 165
    → t.now ≡ done Read s.now → MomentPassed s t → Broke (Write gate gate_closed ∷ Sync ∷ []) t u → Broke (clear_calls (if_open gate s.now.bytes)) s u
close_broke gate found s t u inside was same now goes broke =
    subst (λ b. Broke (clear_calls (if b then Some gate else None)) s u) (sym (opened_gate gate found s.now.bytes inside was same))
    (broke_later (Read ∷ []) (Write gate gate_closed ∷ Sync ∷ []) s t u (called_one Read s t now goes) broke)

-- ## After a call

-- the gate after it was read, and closed if it was open
gate_then : (gate : ℕ) (b : Bool) (old new : State) → is_open (u8_at old.now.bytes gate) ≡ b → gate < length old.now.bytes → Called (clear_calls (if b then Some gate else None)) old new
    → (is_open (u8_at new.now.bytes gate) ≡ false) × SameOutside gate 1 old.now.bytes new.now.bytes
gate_then gate false old new is inside called =
    let same : new.now.bytes ≡ old.now.bytes = ap (λ (m : Moment). m.bytes) called.now in
    (ap (λ bytes. is_open (u8_at bytes gate)) same ∙ is, record { same_length = ap length same; same = λ place out. ap (λ bytes. get_or bytes place 0) same })
gate_then gate true old new is inside called =
    let now : new.now.bytes ≡ written old.now.bytes gate gate_closed = ap (λ (m : Moment). m.bytes) called.now in
    let first : drop gate (written old.now.bytes gate gate_closed) ≡ GATE_CLOSED ∷ drop (gate + 1) old.now.bytes = drop_written old.now.bytes gate gate_closed (omega arith) in
    let byte : u8_at (written old.now.bytes gate gate_closed) gate ≡ 0 =
    ap (λ n. get_or (written old.now.bytes gate gate_closed) n 0) (sym (add-zero gate)) ∙ sym (get_or-drop gate (written old.now.bytes gate gate_closed) 0 0) ∙ ap (λ xs. get_or xs 0 0) first in (
      ap (λ bytes. is_open (u8_at bytes gate)) now ∙ ap is_open byte,
      subst (SameOutside gate 1 old.now.bytes) (sym now) (written_same_outside old.now.bytes gate gate_closed (omega arith)),
    )

-- if the areas of an open device say that the other gate is open
open_other_is : (place : Place) (bytes : List ℕ) → place_in bytes ≡ Some place → (o : Opened) → opening t414 t414_ends bytes ≡ Ok o
    → device_areas.open_other bytes ≡ if_open (other_gate place) bytes
unfolding open_other_of
open_other_is place bytes said o is =
    let here : place_at o ≡ place = same_Some (place_at o) place (sym (opening_place t414 t414_ends bytes o is) ∙ said) in
    ap (λ r. open_other_of r bytes) is ∙ ap (λ (p : Place). if_open (other_gate p) bytes) here

pub cleared_by : (place : Place) (old new : State) → place_in old.now.bytes ≡ Some place → other_gate place < length old.now.bytes
    → Called (clear_calls (if_open (other_gate place) old.now.bytes)) old new → Cleared place old new
unfolding verdict
cleared_by place old new said inside called = record {
  called = called;
  asked = open_other_is place old.now.bytes said;
  closed = (gate_then (other_gate place) (is_open (u8_at old.now.bytes (other_gate place))) old new refl inside called).0;
  rests = λ h rests.
      let o = held_ok (opening t414 t414_ends old.now.bytes) h rests.reads in
      subst (RestsBetweenGroups device_areas h) (sym called.now)
      (rests_cleared t414 device_areas keep h old.now rests (if_open (other_gate place) old.now.bytes) (open_other_is place old.now.bytes said o.0 o.1));
}

-- Whatever came of the calls, a crash since they began leaves what opens to what was held.
pub clear_leaves : {E : Type 0} (r : Result Unit E) (place : Place) (old new : State) → place_in old.now.bytes ≡ Some place
    → OnOk r (Called (clear_calls (if_open (other_gate place) old.now.bytes)) old new) → OnErr r (Broke (clear_calls (if_open (other_gate place) old.now.bytes)) old new)
    → (h : Held NodeState) → RestsAs h old → LeavesOnly old new (StandsOpened h)
clear_leaves r place old new said called broke h rests =
    let o = held_ok (opening t414 t414_ends old.now.bytes) h rests.reads in
    let found = if_open (other_gate place) old.now.bytes in
    calls_leave r (clear_calls found) old new (StandsOpened h) called broke
    (within_clear t414 device_areas keep h old.now rests found (open_other_is place old.now.bytes said o.0 o.1))

pub cleared_place : (place : Place) (old new : State) → 1 ≤ place.areas.length → place_in old.now.bytes ≡ Some place → other_gate place < length old.now.bytes
    → Called (clear_calls (if_open (other_gate place) old.now.bytes)) old new → place_in new.now.bytes ≡ Some place
cleared_place place old new some said inside called =
    let t = gate_then (other_gate place) (is_open (u8_at old.now.bytes (other_gate place))) old new refl inside called in
    place_stays place old.now.bytes new.now.bytes (other_gate place) 1 some said (record { from = omega arith; upto = omega arith }) t.1 t.0

-- bytes after the closed gate
pub put_same : (place : Place) (at : ℕ) (bytes : List ℕ) (old new : State) → other_gate place + 1 + at + length bytes ≤ length old.now.bytes
    → new.now ≡ done (Write (other_gate place + 1 + at) bytes) old.now → SameOutside (other_gate place + 1 + at) (length bytes) old.now.bytes new.now.bytes
put_same place at bytes old new room was =
    let now : new.now.bytes ≡ written old.now.bytes (other_gate place + 1 + at) bytes = ap (λ (m : Moment). m.bytes) was in
    subst (SameOutside (other_gate place + 1 + at) (length bytes) old.now.bytes) (sym now) (written_same_outside old.now.bytes (other_gate place + 1 + at) bytes room)

stays_closed : (place : Place) (at : ℕ) (bytes : List ℕ) (old new : State) → other_gate place + 1 + at + length bytes ≤ length old.now.bytes
    → new.now ≡ done (Write (other_gate place + 1 + at) bytes) old.now → OtherIsClosed place old → OtherIsClosed place new
stays_closed place at bytes old new room was shut =
    let same = put_same place at bytes old new room was in
    ap is_open (same.same (other_gate place) (inl (omega arith))) ∙ shut

spare_is : (o : Opened) (bytes : List ℕ) → other_is_open o bytes ≡ false → spare_of (Ok o) bytes ≡ (other_start o + 1, o.head.areas.length - 1)
unfolding spare_of
spare_is o bytes shut = cond-false (other_is_open o bytes) (0, 0) (other_start o + 1, o.head.areas.length - 1) shut

-- where the areas of an open device have room to spare
lies_spare : (place : Place) (at : ℕ) (bytes : List ℕ) (old : State) → place_in old.now.bytes ≡ Some place → at + length bytes < place.areas.length → OtherIsClosed place old
    → (o : Opened) → opening t414 t414_ends old.now.bytes ≡ Ok o → IsWithin (device_areas.spare old.now.bytes) (other_gate place + 1 + at, length bytes)
lies_spare place at bytes old said inside shut o is =
    let here : place_at o ≡ place = same_Some (place_at o) place (sym (opening_place t414 t414_ends old.now.bytes o is) ∙ said) in
    let P : Place → Type 0 = λ p. OtherIsClosed p old → at + length bytes < p.areas.length → IsWithin (spare_of (Ok o) old.now.bytes) (other_gate p + 1 + at, length bytes) in
    let own : P (place_at o) = λ closed small. subst (λ range. IsWithin range (other_gate (place_at o) + 1 + at, length bytes)) (sym (spare_is o old.now.bytes closed)) (omega arith, omega arith) in
    subst (λ r. IsWithin (spare_of r old.now.bytes) (other_gate place + 1 + at, length bytes)) (sym is) (subst P here own shut inside)

pub spare_at : (place : Place) (old : State) → place_in old.now.bytes ≡ Some place → OtherIsClosed place old → (o : Opened) → opening t414 t414_ends old.now.bytes ≡ Ok o
    → device_areas.spare old.now.bytes ≡ (other_gate place + 1, place.areas.length - 1)
spare_at place old said shut o is =
    let here : place_at o ≡ place = same_Some (place_at o) place (sym (opening_place t414 t414_ends old.now.bytes o is) ∙ said) in
    let P : Place → Type 0 = λ p. OtherIsClosed p old → spare_of (Ok o) old.now.bytes ≡ (other_gate p + 1, p.areas.length - 1) in
    let own : P (place_at o) = λ closed. spare_is o old.now.bytes closed in
    ap (λ r. spare_of r old.now.bytes) is ∙ subst P here own shut

pub put_by : (place : Place) (at : ℕ) (bytes : List ℕ) (old new : State) → place_in old.now.bytes ≡ Some place → other_gate place + 1 + at + length bytes ≤ length old.now.bytes
    → at + length bytes < place.areas.length → OtherIsClosed place old → new.now ≡ done (Write (other_gate place + 1 + at) bytes) old.now → MomentPassed old new → PutBehind place at bytes old new
unfolding verdict
put_by place at bytes old new said room inside shut was goes = record {
  called = called_one (Write (other_gate place + 1 + at) bytes) old new was goes;
  spare = lies_spare place at bytes old said inside shut;
  closed = stays_closed place at bytes old new room was shut;
  rests = λ h rests.
      let o = held_ok (opening t414 t414_ends old.now.bytes) h rests.reads in
      subst (RestsBetweenGroups device_areas h) (sym was)
      (put_done t414 device_areas keep h old.now rests (other_gate place + 1 + at) bytes (lies_spare place at bytes old said inside shut o.0 o.1));
}

-- Whatever came of the write, a crash since it began leaves what opens to what was held.
pub put_leaves : {E : Type 0} (r : Result Unit E) (place : Place) (at : ℕ) (bytes : List ℕ) (old new : State) → place_in old.now.bytes ≡ Some place
    → other_gate place + 1 + at + length bytes ≤ length old.now.bytes → at + length bytes < place.areas.length → OtherIsClosed place old → MomentPassed old new
    → OnOk r (new.now ≡ done (Write (other_gate place + 1 + at) bytes) old.now) → OnErr r (Fails (Write (other_gate place + 1 + at) bytes) old new)
    → (h : Held NodeState) → RestsAs h old → LeavesOnly old new (StandsOpened h)
put_leaves r place at bytes old new said room inside shut goes was failed h rests =
    let o = held_ok (opening t414 t414_ends old.now.bytes) h rests.reads in
    let there = other_gate place + 1 + at in
    weaker old new (MayBe (within (Write there bytes) old.now)) (StandsOpened h)
    (λ left may. (put_may t414 device_areas keep h old.now rests there bytes (lies_spare place at bytes old said inside shut o.0 o.1) left may).0)
    (call_leaves r (Write there bytes) old new room goes was failed)

pub put_place : (place : Place) (at : ℕ) (bytes : List ℕ) (old new : State) → place_in old.now.bytes ≡ Some place → other_gate place + 1 + at + length bytes ≤ length old.now.bytes
    → at + length bytes < place.areas.length → OtherIsClosed place old → new.now ≡ done (Write (other_gate place + 1 + at) bytes) old.now → place_in new.now.bytes ≡ Some place
put_place place at bytes old new said room inside shut was =
    place_stays place old.now.bytes new.now.bytes (other_gate place + 1 + at) (length bytes) (omega arith) said (record { from = omega arith; upto = omega arith })
    (put_same place at bytes old new room was) (stays_closed place at bytes old new room was shut)

-- ## Opening the gate

if_newer_gate : (o : Opened) (r : Result Opened OpenFault) (gate : ℕ) (k : Held NodeState) → if_newer o r ≡ Some (gate, k) → gate ≡ other_start o
if_newer_gate o (Err fault) gate k is = cc
if_newer_gate o (Ok x) gate k is =
    let there : ℕ × Held NodeState = (other_start o, held_of x) in
    let asked : ℕ × Held NodeState = (gate, k) in
    let both = cond_some (nat_lt o.generation x.generation) there asked is in
    sym (ap (λ (p : ℕ × Held NodeState). p.0) both.1)

other_gate_is : (o : Opened) (bytes : List ℕ) (gate : ℕ) (k : Held NodeState) → other_of t414 t414_ends (Ok o) bytes ≡ Some (gate, k) → gate ≡ other_start o
unfolding other_of
other_gate_is o bytes gate k is = go (other_is_open o bytes) is
  where
    go : (opened : Bool) → (if opened then None else if_newer o (area_in t414 t414_ends o.head (not o.second) (other_content o bytes))) ≡ Some (gate, k) → gate ≡ other_start o
    go true here = cc
    go false here = if_newer_gate o (area_in t414 t414_ends o.head (not o.second) (other_content o bytes)) gate k here

-- the gate that the areas of the device name is this one
other_is : (place : Place) (bytes : List ℕ) → place_in bytes ≡ Some place → (h k : Held NodeState) (gate : ℕ) → StandsOpened h bytes → device_areas.other bytes ≡ Some (gate, k)
    → device_areas.other bytes ≡ Some (other_gate place, k)
other_is place bytes said h k gate stands other =
    let o = held_ok (opening t414 t414_ends bytes) h stands in
    let here : place_at o.0 ≡ place = same_Some (place_at o.0) place (sym (opening_place t414 t414_ends bytes o.0 o.1) ∙ said) in
    let there : gate ≡ other_gate place =
    other_gate_is o.0 bytes gate k (ap (λ r. other_of t414 t414_ends r bytes) (sym o.1) ∙ other) ∙ ap (λ (p : Place). other_gate p) here in
    subst (λ n. device_areas.other bytes ≡ Some (n, k)) there other

pub switched_by : (place : Place) (old new : State) → place_in old.now.bytes ≡ Some place → Called (switch_calls (other_gate place)) old new → Switched place old new
switched_by place old new said called = record {
  called = called;
  synced = ap (λ (m : Moment). m.unsynced) called.now;
  rests = λ h k gate stands other.
      let rests : RestsBetweenGroups device_areas k (all_done (switch_calls (other_gate place)) old.now) = record {
        reads = keep.switched old.now.bytes h k (other_gate place) stands (other_is place old.now.bytes said h k gate stands other);
        loose = tt;
      } in
      subst (RestsBetweenGroups device_areas k) (sym called.now) rests;
}

-- Whatever came of the calls, a crash since they began leaves what opens to what was held, or to what the other area holds.
pub switch_leaves : {E : Type 0} (r : Result Unit E) (place : Place) (old new : State) → place_in old.now.bytes ≡ Some place
    → OnOk r (Called (switch_calls (other_gate place)) old new) → OnErr r (Broke (switch_calls (other_gate place)) old new)
    → (h k : Held NodeState) (gate : ℕ) → RestsAs h old → IsSynced old → device_areas.other old.now.bytes ≡ Some (gate, k) → LeavesOnly old new (OpensToEither h k)
switch_leaves r place old new said called broke h k gate rests synced other =
    calls_leave r (switch_calls (other_gate place)) old new (OpensToEither h k) called broke
    (within_switch t414 device_areas keep h old.now k rests (other_gate place) synced (other_is place old.now.bytes said h k gate rests.reads other))

-- ## Of a device that opens, whatever becomes of the calls

pub spare_asked : (place : Place) (at : ℕ) (bytes : List ℕ) (old : State) → place_in old.now.bytes ≡ Some place → at + length bytes < place.areas.length → OtherIsClosed place old
    → (o : Opened) → verdict old.now.bytes ≡ Ok o → IsWithin (device_areas.spare old.now.bytes) (other_gate place + 1 + at, length bytes)
unfolding verdict
spare_asked place at bytes old said inside shut o is = lies_spare place at bytes old said inside shut o is

pub open_other_asked : (place : Place) (bytes : List ℕ) → place_in bytes ≡ Some place → (o : Opened) → verdict bytes ≡ Ok o → device_areas.open_other bytes ≡ if_open (other_gate place) bytes
unfolding verdict
open_other_asked place bytes said o is = open_other_is place bytes said o is
