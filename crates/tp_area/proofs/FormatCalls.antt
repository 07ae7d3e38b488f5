-- The calls of formatting: what they write, and in which order.
use Rattle.std.proofs.Common.{◌≡◌, ℕ, ◌+◌, ◌*◌, ◌≤◌, ◌⊎◌, inl, inr, true, Result, OnOk, OnErr, List, [], ◌∷◌, ◌++◌, length, refl, sym, ap, subst, ◌∙◌, arith}
use Rattle.tp_area.proofs.Lower.{AllByRecursion, TwoAreas, AREA_HEAD_BYTES, BASE_BYTES, GATE_CLOSED, area_start, Moment, MayBe, IsWithin, SameOutside, Write, Sync, written, done, within, State, MomentPassed, Fails, LeavesOnly, Called, put_calls, called_one, called_then, written_through, and_then, weaker, call_leaves, same_outside_write}
use Rattle.tp_area.specs.Puts.{ButFor, Puts}
use Rattle.tp_area.specs.Formatting.{area_front, Wrote, with_areas}
use Rattle.tp_area.proofs.PutLaws.{put_calls-append, wider_leaves, then_leaves}

-- how many bytes of an area are before its images
abbrev pub front_size : ℕ
front_size = AREA_HEAD_BYTES + BASE_BYTES

pub length-area_front : (cut : ℕ) → length (area_front cut) ≡ front_size
unfolding area_front
length-area_front cut = refl

from_on : (from at count : ℕ) (pieces : List (ℕ × List ℕ)) → from ≤ at → AllByRecursion (λ (piece : ℕ × List ℕ). IsWithin (at, count) (piece.0, length piece.1)) pieces
    → AllByRecursion (λ (piece : ℕ × List ℕ). from ≤ piece.0) pieces
from_on from at count [] le all = tt
from_on from at count (piece ∷ pieces) le all = let low = all.0.0 in (omega arith, from_on from at count pieces le all.1)

both_on : (from : ℕ) (first second : List (ℕ × List ℕ)) → AllByRecursion (λ (piece : ℕ × List ℕ). from ≤ piece.0) first → AllByRecursion (λ (piece : ℕ × List ℕ). from ≤ piece.0) second
    → AllByRecursion (λ (piece : ℕ × List ℕ). from ≤ piece.0) (first ++ second)
both_on from [] second one two = two
both_on from (piece ∷ first) second one two = (one.0, both_on from first second one.1 two)

-- both areas, a sync, the head, and a sync
pub wrote_all : (first head : List ℕ) (areas : TwoAreas) (s t u v w : State) → Puts areas.first first s t → Puts (area_start areas true) (GATE_CLOSED ∷ []) t u
    → v.now ≡ done Sync u.now → MomentPassed u v → Called (Write 0 head ∷ Sync ∷ []) v w → Wrote first head areas s w
wrote_all first head areas s t u v w one two synced goes last =
    let pieces = one.pieces ++ two.pieces in
    let put : Called (put_calls pieces) s u =
    subst (λ calls. Called calls s u) (sym (put_calls-append one.pieces two.pieces)) (called_then (put_calls one.pieces) (put_calls two.pieces) s t u one.called two.called) in
    let sync : Called (Sync ∷ []) u v = called_one Sync u v synced goes in
    let rest : Called (Sync ∷ Write 0 head ∷ Sync ∷ []) u w = called_then (Sync ∷ []) (Write 0 head ∷ Sync ∷ []) u v w sync last in
    record {
      pieces = pieces;
      behind_head = both_on areas.first one.pieces two.pieces
          (from_on areas.first areas.first (length first) one.pieces (omega arith) one.within)
          (from_on areas.first (area_start areas true) 1 two.pieces (omega arith) two.within);
      called = called_then (put_calls pieces) (Sync ∷ Write 0 head ∷ Sync ∷ []) s u w put rest;
      bytes = (written_through 0 head v w last).0 ∙ ap (λ (m : Moment). written m.bytes 0 head) synced
          ∙ ap (λ bytes. written bytes 0 head) (two.are ∙ ap (λ bytes. written bytes (area_start areas true) (GATE_CLOSED ∷ [])) one.are);
    }

-- ## What a crash leaves on the way

-- the first area
pub first_leaves : (areas : TwoAreas) (part : ℕ) (s t : State) → part ≤ areas.length → LeavesOnly s t (ButFor areas.first part s.now) → LeavesOnly s t (ButFor areas.first (2 * areas.length) s.now)
first_leaves areas part s t low only = wider_leaves (areas.first, 2 * areas.length) (areas.first, part) s t (omega arith, omega arith) only

-- the second one's gate
pub second_leaves : (areas : TwoAreas) (s t u : State) → 1 ≤ areas.length → LeavesOnly s t (ButFor areas.first (2 * areas.length) s.now) → LeavesOnly t u (ButFor (area_start areas true) 1 t.now)
    → LeavesOnly s u (ButFor areas.first (2 * areas.length) s.now)
second_leaves areas s t u some one two = then_leaves (areas.first, 2 * areas.length) (area_start areas true, 1) s t u (omega arith, omega arith) one two

-- a sync
pub sync_leaves : {E : Type 0} (r : Result Unit E) (s t u : State) (P : List ℕ → Type 0) → LeavesOnly s t P → MomentPassed t u → OnOk r (u.now ≡ done Sync t.now) → OnErr r (Fails Sync t u)
    → LeavesOnly s u P
sync_leaves r s t u P one goes was failed =
    and_then s t u P one (weaker t u (MayBe t.now) P (λ left may. one.each left (inr may)) (call_leaves r Sync t u tt goes was failed))

-- the areas aren't complete yet
pub areas_leave : (areas : TwoAreas) (complete : List ℕ) (s t : State) → LeavesOnly s t (ButFor areas.first (2 * areas.length) s.now)
    → LeavesOnly s t (λ left. ButFor areas.first (2 * areas.length) s.now left ⊎ SameOutside 0 areas.first complete left)
areas_leave areas complete s t only =
    weaker s t (ButFor areas.first (2 * areas.length) s.now) (λ left. ButFor areas.first (2 * areas.length) s.now left ⊎ SameOutside 0 areas.first complete left) (λ left b. inl b) only

-- they are complete and synced, and the head is written
pub head_leaves : (first head : List ℕ) (areas : TwoAreas) (s t u v w : State) → length head ≡ areas.first → Puts areas.first first s t → Puts (area_start areas true) (GATE_CLOSED ∷ []) t u
    → v.now ≡ done Sync u.now → LeavesOnly s v (ButFor areas.first (2 * areas.length) s.now) → LeavesOnly v w (MayBe (within (Write 0 head) v.now))
    → LeavesOnly s w (λ left. ButFor areas.first (2 * areas.length) s.now left ⊎ SameOutside 0 areas.first (with_areas first areas s.now.bytes) left)
head_leaves first head areas s t u v w long one two synced before within_head =
    let complete : v.now.bytes ≡ with_areas first areas s.now.bytes =
    ap (λ (m : Moment). m.bytes) synced ∙ two.are ∙ ap (λ bytes. written bytes (area_start areas true) (GATE_CLOSED ∷ [])) one.are in
    let P : List ℕ → Type 0 = λ left. ButFor areas.first (2 * areas.length) s.now left ⊎ SameOutside 0 areas.first (with_areas first areas s.now.bytes) left in
    and_then s v w P (areas_leave areas (with_areas first areas s.now.bytes) s v before)
    (weaker v w (MayBe (within (Write 0 head) v.now)) P
    (λ left may. inr (subst (λ bytes. SameOutside 0 areas.first bytes left) complete
    (subst (λ (n : ℕ). SameOutside 0 n v.now.bytes left) long
    (same_outside_write v.now 0 head left (ap (λ (m : Moment). m.unsynced) synced) may)))) within_head)
