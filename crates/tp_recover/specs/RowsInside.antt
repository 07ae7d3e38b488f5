-- What was read of rows, in its fields.
use Rattle.std.specs.Prelude.{◌≡◌, ◌+◌, ◌<◌, ◌≤◌, ℕ, true, length}
use Rattle.tp_recover.specs.Lower.{AllByRecursion, Entry, NUMBER_LIMIT, is_in_range}
use Rattle.tp_recover.specs.declared.journal.rows.Rows.TheInside.{Inside}
use Rattle.tp_recover.specs.RowsRead.{Rows}

abbrev pub rows_inside : Inside → Rows
rows_inside r = record { form = r.form; kept = r.kept.items; places = r.places.items; base = r.base; next = r.next; least = r.least }

-- The next number counts all entries and is one; each entry is in the range of its bytes, and has a place.
pub record IsRows (r : Inside) : Type 0 where
  pub count : r.next ≡ r.base + length r.kept.items
  pub few : r.next < NUMBER_LIMIT
  pub ranged : AllByRecursion (λ (e : Entry × ℕ). is_in_range e.0 ≡ true) r.kept.items
  pub placed : length r.kept.items ≤ length r.places.items
