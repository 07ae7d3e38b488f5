-- Room that is kept in the journal.
use Rattle.std.specs.Prelude.{◌≡◌, ◌⊎◌, ◌<◌, ℕ, ◌+◌, ◌-◌, ◌*◌, max, min, Bool, ◌&&◌, nat_lt, length, Option, Some, None, IfSome, ◌≤◌}
use Rattle.tp_stream.specs.Lower.{MAX_HELD, NUMBER_LIMIT, reserve, BookValue, next_in_book, outputs_of, reserved, after_confirm, half_capacity, left_behind, takes, JournalRoom, TAKES, TURN_ENTRIES}

-- whether a journal has room for `more` entries after those that were made since the kept cut
abbrev pub has_room_for : JournalRoom → BookValue → ℕ → Bool
has_room_for journal b more = takes (next_in_book b - b.base + more) journal && nat_lt (next_in_book b + more) NUMBER_LIMIT

-- how many more entries the journal has room for
abbrev pub free_of : JournalRoom → BookValue → ℕ
free_of journal b = left_behind (next_in_book b - b.base) journal

-- With `more` entries more a book still has room in its journal, and a number for each; and since the kept cut fewer than `every` were made.
pub record StaysAhead (journal : JournalRoom) (more every : ℕ) (b : BookValue) : Type 0 where
  pub room : more ≤ free_of journal b
  pub numbers : next_in_book b + more < NUMBER_LIMIT
  pub early : next_in_book b - b.base + more < every

-- A book in such a journal, with no run reserved.
pub record UnreservedBook (journal : JournalRoom) (b : BookValue) : Type 0 where
  pub bound : b.room ≡ Some journal.bytes
  pub beside : journal.kept ≡ reserve (length b.state.lines)
  pub rests : reserved b ≡ 0

-- Nothing has changed, or outputs of one port were confirmed.
abbrev pub IsConfirmed : BookValue → BookValue → Type 0
IsConfirmed old new = (new ≡ old) ⊎ ((port : ℕ) × (upto : ℕ) × (new ≡ after_confirm old port upto))

-- Each port has room for one more byte of output.
abbrev pub HavePlace : BookValue → Type 0
HavePlace b = (p : ℕ) → p < length b.state.ports → IfSome (outputs_of b p) (λ outputs. length outputs < MAX_HELD)

-- After how many entries since the kept cut a snapshot begins: as many as were asked for, or at least one. It is at most half of what the journal
-- takes, and that half if none were asked for.
abbrev pub every_of : JournalRoom → Option ℕ → ℕ
every_of journal None = max (half_capacity journal) 1
every_of journal (Some entries) = min (max (half_capacity journal) 1) (max entries 1)

-- How many entries a turn and the confirms after it need, with `ports` ports. The turn is a node's, or the host's with TAKES entries a port,
-- whichever needs more. The confirms need one for each port.
abbrev pub need_of : ℕ → ℕ
need_of ports = max TURN_ENTRIES (TAKES * ports) + ports
