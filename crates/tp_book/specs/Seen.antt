-- What only contracts see of a book's snapshots.
use Rattle.std.specs.Prelude.{ℕ, List, Option}
use Rattle.tp_book.specs.Lower.{Entry, NodeState}

-- Each node's frozen image once it has recorded in the snapshot that runs, and all entries since the book was opened. Then how many entries
-- there were after the kept cut when it was opened.
pub record Seen : Type 0 where
  pub frozen : List (Option NodeState)
  pub history : List Entry
  pub floor : ℕ
