-- What a receipt is for.
use Rattle.std.specs.Prelude.{◌≡◌, ℕ, ◌+◌, List, ◌++◌, length}
use Rattle.tp_work.specs.Lower.{enumerate_from, Entry, ReceiptValue, AreBelow}

-- A seat got the slips of exactly the entries. Their numbers follow one another and are above all that the seat had. The receipt's number
-- is the next one after them.
pub record IsFor (entries : List Entry) (old new : List (ℕ × Entry)) (receipt : ReceiptValue) : Type 0 where
  pub first : ℕ
  pub slips : new ≡ old ++ enumerate_from first entries
  pub below : AreBelow first old
  pub number : receipt.number ≡ first + length entries
