-- The calls of the system that give a file room for all bytes of a device, and how they leave what was in it.
use Rattle.std.specs.Prelude.{◌≡◌, ◌⊎◌, ℕ, ◌+◌, ◌-◌, ◌*◌, ◌≤◌, Bool, true, if◌then◌else◌, min, nat_eq, nat_lt, List, [], ◌∷◌, ◌++◌, map, replicate}
use Rattle.tp_disk.specs.Lower.{div_ceil, AllByRecursion, range_with_len}
use Rattle.tp_disk.specs.declared.filling.TheConstants.{PIECE}
use Rattle.tp_disk.specs.History.{FileCall, Measures, Reads, Resizes, Syncs, SyncsData, Writes}

-- of `count` bytes 00 from a place on, the piece of this number: as long as each other, except the last one, which has what is left
abbrev pub piece_at : (at count : ℕ) → (ok : Bool) → (number : ℕ) → FileCall
piece_at at count ok number = Writes (at + number * PIECE) (replicate (min PIECE (count - number * PIECE)) 0) ok

-- `count` bytes 00 are written from a place on, in pieces, and synced with the file's length
abbrev pub filling : (at count : ℕ) → List FileCall
filling at count = map (piece_at at count true) (range_with_len 0 (div_ceil count PIECE)) ++ Syncs true ∷ []

-- a file of `length` bytes is asked for the room of a device of `size` bytes: what it lacks is written after its end
abbrev pub asking : (length size : ℕ) → List FileCall
asking length size = if nat_lt length size then filling length (size - length) else []

-- What a file of `length` bytes had is written over, its first byte alone before all others, and it gets `size` bytes.
abbrev pub clearing : (length size : ℕ) → List FileCall
clearing length size =
    if nat_eq length 0 then [] else Writes 0 (0 ∷ []) true ∷ SyncsData true ∷ Resizes size true ∷ filling 1 (min length size - 1)

-- whether done or failed, a call leaves what is before a place as it was
abbrev pub IsBehind : ℕ → FileCall → Type 0
IsBehind place (Reads at came ok) = Unit {0}
IsBehind place (Writes at bytes ok) = place ≤ at
IsBehind place (Syncs ok) = Unit {0}
IsBehind place (SyncsData ok) = Unit {0}
IsBehind place (Measures length) = Unit {0}
IsBehind place (Resizes length ok) = place ≤ length

-- From the one list of calls to the other, none reached what is before a place.
pub record KeepsFront (place : ℕ) (old new : List FileCall) : Type 0 where
  pub made : List FileCall
  pub are : new ≡ old ++ made
  pub behind : AllByRecursion (IsBehind place) made

-- None reached the first `length` bytes, and the last call gives the file exactly these.
pub record CutBack (length : ℕ) (old new : List FileCall) : Type 0 where
  pub before : List FileCall
  pub ok : Bool
  pub kept : KeepsFront length old before
  pub cut : new ≡ before ++ Resizes length ok ∷ []

-- From the one list of calls to the other, calls were made and none was taken back.
pub record GoesOn (old new : List FileCall) : Type 0 where
  pub made : List FileCall
  pub are : new ≡ old ++ made

-- A file of `length` bytes didn't become a device of `size` bytes. Either there was no room, and what was in it is there; or there was room
-- for all, and only then a call could reach what was in it.
abbrev pub IsLeft : (length size : ℕ) → (old new : List FileCall) → Type 0
IsLeft length size old new = CutBack length old new ⊎ GoesOn (old ++ asking length size) new
