-- Devices that were asked for, made, opened to be written, and given back; and what else was done with files.
use Rattle.std.specs.Prelude.{◌≡◌, ◌⊎◌, ◌≤◌, ℕ, Bool, true, false, List, [], ◌∷◌, ◌++◌, Option}
use Rattle.tp_program.specs.Lower.{State, Reading}

-- What was done with devices that are written:
-- - `Holds`: the device at a path was asked for, for some seconds while another process had it, and it was got or not
-- - `Makes`: an empty file was to be made at a path and held, and that was done or not
-- - `Opens`: the device at a path was opened, in this state
-- - `Closes`: a device was given back, in this state, after these reads
pub data DeviceCall : Type 0 where
  Holds : (path : List ℕ) → (seconds : ℕ) → (ok : Bool) → DeviceCall
  Makes : (path : List ℕ) → (ok : Bool) → DeviceCall
  Opens : (path : List ℕ) → (state : State) → DeviceCall
  Closes : (state : State) → (read : List Reading) → DeviceCall
  -- What was done with other files:
  -- - `Reads`: a file was read whole
  -- - `Looks`: a device was opened to be only read
  -- - `Begins`: a device was begun in a file that is made or replaced
  -- - `Leaves`: one of these devices was given back, in this state, after these reads
  -- - `Links`: the copy that was made at `part` got its name
  -- - `Requests`: a request to stop was to be made at a path, and that was done or not
  Reads : (path bytes : List ℕ) → DeviceCall
  Looks : (path : List ℕ) → (state : State) → DeviceCall
  Begins : (path : List ℕ) → (state : State) → DeviceCall
  Leaves : (state : State) → (read : List Reading) → DeviceCall
  Links : (part copy : List ℕ) → DeviceCall
  Requests : (path : List ℕ) → (ok : Bool) → DeviceCall

-- the path of the first of these calls, if it asked for a device or made a file
abbrev pub path_held : List DeviceCall → List ℕ
path_held [] = []
path_held (Holds path seconds ok ∷ calls) = path
path_held (Makes path ok ∷ calls) = path
path_held (Opens path state ∷ calls) = []
path_held (Closes state read ∷ calls) = []
path_held (Reads path bytes ∷ calls) = []
path_held (Looks path state ∷ calls) = []
path_held (Begins path state ∷ calls) = []
path_held (Leaves state read ∷ calls) = []
path_held (Links part copy ∷ calls) = []
path_held (Requests path ok ∷ calls) = []

-- At most one call was made: that a file was to be made at this path. No device was asked for, opened or given back.
abbrev pub MadeAtMost : (path : List ℕ) → (old new : List DeviceCall) → Type 0
MadeAtMost path old new = (new ≡ old) ⊎ ((new ≡ old ++ Makes path true ∷ []) ⊎ (new ≡ old ++ Makes path false ∷ []))

-- The command was refused: it asked for no device, opened none, and printed nothing.
pub record WasRefused (old new : List DeviceCall) (was now : Option (List ℕ)) (status : ℕ) : Type 0 where
  pub refused : 1 ≤ status
  pub unopened : new ≡ old
  pub silent : now ≡ was

-- Only the device at this path was opened, and it was given back. `P` is true of its states when it was opened and when it was given back, and of what its
-- reads gave.
pub record UsedOne (path : List ℕ) (old new : List DeviceCall) (P : State → State → List Reading → Type 0) : Type 0 where
  pub opened : State
  pub closed : State
  pub read : List Reading
  pub calls : new ≡ old ++ Opens path opened ∷ Closes closed read ∷ []
  pub between : P opened closed read
