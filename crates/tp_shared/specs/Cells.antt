-- What a node's lock holds.
use Rattle.std.specs.Prelude.{◌≡◌, ◌<◌, ℕ, ◌+◌, ◌*◌, List, length, Some, slice_get}
use Rattle.tp_shared.specs.declared.nodes.place.Place.{Place}
use Rattle.tp_shared.specs.Seals.{KeyShows}
use Rattle.tp_shared.specs.declared.nodes.cells.TheConstants.{CELLS}

-- A node that exists, with the key of its name, which shows it. No turn of it is open.
pub record IsPlaceOf (name i count : ℕ) (p : Place) : Type 0 where
  pub there : i < count
  pub named : p.key.name ≡ name
  pub shows : KeyShows p

-- each node of the cell `first`, among `count`: the node `first`, and each `CELLS`th after it
pub record AreOfCell (first : ℕ) (names : ℕ → ℕ) (count : ℕ) (places : List Place) : Type 0 where
  pub each : (k : ℕ) (p : Place) → slice_get places k ≡ Some p → IsPlaceOf (names (CELLS * k + first)) (CELLS * k + first) count p
  pub all : (k : ℕ) → CELLS * k + first < count → k < length places
