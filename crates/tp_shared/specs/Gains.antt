-- What a seat gains.
use Rattle.std.specs.Prelude.{◌≡◌, ◌<◌, ℕ, ◌+◌, List, ◌++◌, length}
use Rattle.tp_shared.specs.Lower.{AllByRecursion, enumerate_from, Entry}
use Rattle.tp_shared.specs.Seals.{Stage}

-- What a hold of the book's lock did: entries as `Are` says were journalled, and the seat has exactly their slips. All slips that it had
-- have lower numbers.
pub record HoldNoted (Are : List Entry → Type 0) (first : ℕ) (old new : Stage) (seat_old seat_new : List (ℕ × Entry)) : Type 0 where
  pub entries : List Entry
  pub are : Are entries
  pub journal : new.all ≡ old.all ++ entries
  pub seat : seat_new ≡ seat_old ++ enumerate_from (first + length old.all) entries
  pub below : AllByRecursion (λ x. x.0 < first + length old.all) seat_old

-- What a seat gained, without the book: the numbers follow one another.
pub record Gained (Are : List Entry → Type 0) (seat_old seat_new : List (ℕ × Entry)) : Type 0 where
  pub next : ℕ
  pub entries : List Entry
  pub are : Are entries
  pub seat : seat_new ≡ seat_old ++ enumerate_from next entries
  pub below : AllByRecursion (λ x. x.0 < next) seat_old
