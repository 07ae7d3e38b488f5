-- The folder of a path, and calls that sync it.
use Rattle.std.specs.Prelude.{◌≡◌, ◌⊎◌, ℕ, Bool, true, Some, None, List, [], ◌∷◌, ◌++◌, length, take, if◌then◌else◌, nat_eq}
use Rattle.std.specs.Str.Pattern.{RFindsChar}
use Rattle.tp_stream_files.specs.Told.{EndTold, SyncedFolder}

-- what is before a path's last slash, or `/` if nothing is
abbrev pub before_slash : List ℕ → List ℕ
before_slash front = if nat_eq (length front) 0 then 47 ∷ [] else front

-- The folder of a path: what is before its last slash, and `.` if it has none.
abbrev pub IsFolder : List ℕ → List ℕ → Type 0
IsFolder path folder =
    (RFindsChar 47 path None × (folder ≡ 46 ∷ []))
    ⊎ ((i : ℕ) × (j : ℕ) × RFindsChar 47 path (Some (i, j)) × (folder ≡ before_slash (take i path)))

-- The only call asked for the folder of a path to be synced, and it succeeded or failed.
abbrev pub AsksFolder : List ℕ → Bool → List EndTold → List EndTold → Type 0
AsksFolder path ok old new = (folder : List ℕ) × IsFolder path folder × (new ≡ old ++ SyncedFolder folder ok ∷ [])

-- The folder of a path was synced.
abbrev pub HasSynced : List ℕ → List EndTold → List EndTold → Type 0
HasSynced path old new = AsksFolder path true old new
