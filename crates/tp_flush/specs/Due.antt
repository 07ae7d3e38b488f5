-- When a snapshot is due.
use Rattle.std.specs.Prelude.{ℕ, ◌-◌, Bool, nat_le}
use Rattle.tp_book.specs.Book.{BookValue, next_in_book}

-- at least `every` entries have been made since the kept cut
abbrev pub is_due : ℕ → BookValue → Bool
is_due every b = nat_le every (next_in_book b - b.base)
