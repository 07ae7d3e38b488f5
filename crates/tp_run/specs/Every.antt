-- When a run begins a snapshot.
use Rattle.std.specs.Prelude.{ℕ, ◌-◌, nat_le, if◌then◌else◌, Option, Some, None}
use Rattle.tp_run.specs.Lower.{Topology, half_capacity, journal_of, BookValue, next_in_book}

-- how many entries fill half of the journal of an area
abbrev pub half_of : Topology → ℕ → ℕ
half_of t area = half_capacity (journal_of t area)

-- how many entries since the kept cut begin a snapshot: as many as were asked for. By default that is half of a journal, and at least one.
abbrev pub every_of : Option ℕ → Topology → ℕ → ℕ
every_of (Some asked) t area = asked
every_of None t area = if nat_le (half_of t area) 1 then 1 else half_of t area

-- how many more entries are needed until there are `every` since the kept cut
abbrev pub missing_in : ℕ → BookValue → ℕ
missing_in every b = every - (next_in_book b - b.base)
