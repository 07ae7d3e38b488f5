-- Bytes that are put on a device piece by piece.
use Rattle.std.specs.Prelude.{◌≡◌, ℕ, List, length}
use Rattle.tp_area.specs.Lower.{AllByRecursion, Moment, MayBe, IsWithin, SameOutside, written, State, Called, put_calls}

-- The bytes were written from this place on, in pieces, and no other call was made. They aren't synced.
pub record Puts (at : ℕ) (bytes : List ℕ) (old new : State) : Type 0 where
  pub pieces : List (ℕ × List ℕ)
  pub within : AllByRecursion (λ piece. IsWithin (at, length bytes) (piece.0, length piece.1)) pieces
  pub called : Called (put_calls pieces) old new
  pub are : new.now.bytes ≡ written old.now.bytes at bytes

-- Outside this range it is some content that a crash at that moment might leave.
pub record ButFor (at count : ℕ) (m : Moment) (left : List ℕ) : Type 0 where
  pub before : List ℕ
  pub may : MayBe m before
  pub same : SameOutside at count before left
