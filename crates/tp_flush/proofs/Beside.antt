-- What the calls of the store leave of the head and of the other area.
use Rattle.std.proofs.Common.{◌≡◌, ◌⊎◌, inl, inr, ℕ, ◌+◌, ◌-◌, ◌<◌, ◌≤◌, List, [], ◌∷◌, length, sym, ap, subst, ◌∙◌, Bool, true, false, arith}
use Rattle.std.specs.Prelude.{not}
use Rattle.tp_flush.proofs.Lower.{TwoAreas, area_start, areas_end, content_of, Topology, Moment, SameOutside, written, State, Called, put_calls, Place, other_gate, content_beside, content_same, front_from, head_same, written_same_outside, content_put}
use Rattle.tp_flush.specs.Flushing.{HeadSays}

-- the head stays if only bytes after it are written
pub head_kept : (at n : ℕ) (old new : List ℕ) (t : Topology) (areas : TwoAreas) → SameOutside at n old new → areas.first ≤ at → HeadSays t areas old → HeadSays t areas new
head_kept at n old new t areas same low says = record {
  version = says.version;
  is = head_same old new (record { version = says.version; topology = t; areas = areas }) same.same_length
      (front_from areas.first old new (sym same.same_length) (λ i front. sym (same.same i (inl (omega (arith, front, low)))))) says.is;
}

-- the other area's content stays if only bytes outside it are written
pub content_kept : (place : Place) (at n : ℕ) (s new : State) → SameOutside at n s.now.bytes new.now.bytes
    → (at + n ≤ other_gate place + 1) ⊎ (other_gate place + place.areas.length ≤ at) → 1 ≤ place.areas.length → content_beside place new ≡ content_beside place s
content_kept place at n s new same apart some =
    content_same place.areas (not place.second) s.now.bytes new.now.bytes same.same_length (λ q low high. same.same q (side q low high apart))
  where
    side : (q : ℕ) → other_gate place + 1 ≤ q → q < other_gate place + 1 + (place.areas.length - 1) → (at + n ≤ other_gate place + 1) ⊎ (other_gate place + place.areas.length ≤ at) → (q < at) ⊎ (at + n ≤ q)
    side q low high (inl front) = inr (omega (arith, low, front))
    side q low high (inr behind) = inl (omega (arith, high, behind, some))

pub areas_fit : (areas : TwoAreas) (long : ℕ) (second : Bool) → areas_end areas ≤ long → area_start areas second + areas.length ≤ long
areas_fit areas long false whole = omega (arith, whole)
areas_fit areas long true whole = omega (arith, whole)

pub head_first : (areas : TwoAreas) (second : Bool) → areas.first ≤ area_start areas second
head_first areas false = omega arith
head_first areas true = omega arith

-- a piece that was put is in the content, and nothing else changes there
module _ (place : Place) (at : ℕ) (bytes : List ℕ) (s new : State) (whole : areas_end place.areas ≤ length s.now.bytes) (small : at + length bytes < place.areas.length)
    (called : Called (put_calls ((other_gate place + 1 + at, bytes) ∷ [])) s new) where
  bytes_are : new.now.bytes ≡ written s.now.bytes (other_gate place + 1 + at) bytes
  bytes_are = ap (λ (m : Moment). m.bytes) called.now

  room : other_gate place + place.areas.length ≤ length s.now.bytes
  room = areas_fit place.areas (length s.now.bytes) (not place.second) whole

  pub put_content : content_beside place new ≡ written (content_beside place s) at bytes
  put_content = ap (content_of place.areas (not place.second)) bytes_are ∙ content_put place.areas (not place.second) s.now.bytes at bytes room small

  pub put_same : SameOutside (other_gate place + 1 + at) (length bytes) s.now.bytes new.now.bytes
  put_same = subst (SameOutside (other_gate place + 1 + at) (length bytes) s.now.bytes) (sym bytes_are) (written_same_outside s.now.bytes (other_gate place + 1 + at) bytes (omega (arith, room, small)))
