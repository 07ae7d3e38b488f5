-- What acts do to a book.
use Rattle.std.specs.Prelude.{◌≡◌, List, ◌++◌, length}
use Rattle.tp_turn.specs.Lower.{range_with_len, Entry, BookValue, next_in_book}

-- The book has `entries` more, under the numbers that come next, and apart from these only lines, ports and nodes have changed.
pub record Grew (entries : List Entry) (old new : BookValue) : Type 0 where
  pub start : new.state.start ≡ old.state.start
  pub entries_are : new.state.entries ≡ old.state.entries ++ entries
  pub numbers : new.numbers ≡ old.numbers ++ range_with_len (next_in_book old) (length entries)
  pub base : new.base ≡ old.base
  pub runs : new.runs ≡ old.runs
  pub ready : new.ready ≡ old.ready
  pub broken : new.broken ≡ old.broken
  pub room : new.room ≡ old.room
  pub history : new.history ≡ old.history ++ entries
  pub generation : new.generation ≡ old.generation
  pub floor : new.floor ≡ old.floor
  pub form : new.form ≡ old.form
