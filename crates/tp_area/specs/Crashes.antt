-- What a crash during a call of the store leaves, by what it opens to.
use Rattle.std.specs.Prelude.{◌≡◌, ◌⊎◌, ℕ, List, Some}
use Rattle.tp_area.specs.Lower.{NodeState, State, Held, device_areas, RestsBetweenGroups}

-- opened, the bytes hold this
abbrev pub StandsOpened : Held NodeState → List ℕ → Type 0
StandsOpened h bytes = device_areas.verdict bytes ≡ Some h

-- the one, or the other
abbrev pub OpensToEither : Held NodeState → Held NodeState → List ℕ → Type 0
OpensToEither h k bytes = StandsOpened h bytes ⊎ StandsOpened k bytes

-- The device holds this, and what is unsynced comes after the other area's closed gate. This is true while pieces are put there, and
-- whenever nothing is unsynced.
abbrev pub RestsAs : Held NodeState → State → Type 0
RestsAs h s = RestsBetweenGroups device_areas h s.now
