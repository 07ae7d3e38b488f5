-- All that was journalled since the opening, in somebody's hand.
use Rattle.std.specs.Prelude.{◌≡◌, ℕ, List, length, drop}
use Rattle.tp_flush.specs.Lower.{Entry, shown, item_of}

-- The journal has `next` entries. For each number from `first` on that it has, there is one slip, which shows the journal's entry. No slip
-- has another number.
pub record AreAll (first next : ℕ) (journal : List Entry) (slips : List (ℕ × Entry)) : Type 0 where
  pub count : length journal ≡ next
  pub each : (n : ℕ) → shown n slips ≡ item_of first (drop first journal) n
