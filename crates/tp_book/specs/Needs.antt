-- What a book needs of the snapshot that may run.
use Rattle.std.specs.Prelude.{◌≡◌, ◌<◌, ◌≤◌, ◌++◌, ℕ, Bool, false, not, ◌&&◌, List, length, Option, Some, None}
use Rattle.tp_book.specs.Lower.{Token, before, on_line, Snapshot, has_recorded, is_closed, LINE_TOKENS}

-- a snapshot runs in which the process has recorded
abbrev pub has_recorded_in : Option Snapshot → ℕ → Bool
has_recorded_in None p = false
has_recorded_in (Some snap) p = has_recorded snap p

-- a snapshot runs in which the process hasn't recorded
abbrev pub is_asked : Option Snapshot → ℕ → Bool
is_asked None p = false
is_asked (Some snap) p = not (has_recorded snap p)

-- A snapshot runs in which the process has recorded, and the line isn't closed: what is taken from it belongs to the cut.
abbrev pub is_needed : Option Snapshot → ℕ → ℕ → Bool
is_needed None p line = false
is_needed (Some snap) p line = has_recorded snap p && not (is_closed snap line)

-- the snapshot that may run knows the process, the line, and has the lines
abbrev pub KnowsProcess : Option Snapshot → ℕ → Type 0
KnowsProcess given p = (snap : Snapshot) → given ≡ Some snap → p < length snap.counts

abbrev pub KnowsLine : Option Snapshot → ℕ → Type 0
KnowsLine given line = (snap : Snapshot) → given ≡ Some snap → line < length snap.closed

abbrev pub HasLines : Option Snapshot → ℕ → Type 0
HasLines given lines = (snap : Snapshot) → given ≡ Some snap → lines ≡ length snap.closed

-- the tokens before a line's Marker find room after what the cut has of that line
abbrev pub HasRoomBefore : Option Snapshot → List (List Token) → ℕ → Type 0
HasRoomBefore given lines line = (snap : Snapshot) → given ≡ Some snap
    → (line < length snap.lines) × (length (on_line snap.lines line ++ before (on_line lines line)) ≤ LINE_TOKENS)
