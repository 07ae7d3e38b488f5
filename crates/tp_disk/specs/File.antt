-- How a file becomes a device.
use Rattle.std.specs.Prelude.{◌≡◌, ℕ, true, ◌&&◌, if◌then◌else◌, nat_eq, nat_lt, List, [], ◌∷◌, ◌++◌, length, take, drop}
use Rattle.tp_disk.specs.declared.filling.Making.{Making}
use Rattle.tp_disk.specs.declared.filling.Making.TheVariants.{Done, Empties, Fills}
use Rattle.tp_disk.specs.Filling.{GoesOn, IsLeft, asking, clearing}
use Rattle.tp_disk.specs.History.{FileCall, Measures, Resizes, Syncs, SyncsData, Writes}

-- The calls of the system that make a device of `size` bytes of a file. If it is one, there are none. If it takes room as it is written, it
-- is emptied and gets its length. Else it first gets room for all of the device, and only then what it had is written over.
abbrev pub making : Making → ℕ → List FileCall
making Done size = []
making Empties size = Resizes 0 true ∷ Resizes size true ∷ Syncs true ∷ []
making (Fills old) size = asking old size ++ clearing old size

-- What the calls left that didn't make a device of a file. If the file was to be filled, nothing of it was written over before there was
-- room for all.
abbrev pub NotMade : Making → ℕ → (old new : List FileCall) → Type 0
NotMade Done size old new = ⊥
NotMade Empties size old new = GoesOn old new
NotMade (Fills length) size old new = IsLeft length size old new

-- For a file that is to be filled, the system was asked once how many bytes it has.
abbrev pub IsMeasured : Making → (old new : List FileCall) → Type 0
IsMeasured Done old new = ⊥
IsMeasured Empties old new = ⊥
IsMeasured (Fills length) old new = new ≡ old ++ Measures length ∷ []

-- the calls of the system that write bytes: at the front the first byte last, alone, once the others are synced
abbrev pub placing : ℕ → List ℕ → List FileCall
placing at bytes =
    if nat_eq at 0 && nat_lt 0 (length bytes) then Writes 1 (drop 1 bytes) true ∷ SyncsData true ∷ Writes 0 (take 1 bytes) true ∷ []
    else Writes at bytes true ∷ []
