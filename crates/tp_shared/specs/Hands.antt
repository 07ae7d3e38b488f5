-- Places that are dealt to the cells of a row.
use Rattle.std.specs.Prelude.{◌≡◌, ◌≢◌, ℕ, ◌/◌, ◌%◌, ◌==◌, if◌then◌else◌, List, [], ◌∷◌, ◌++◌}
use Rattle.tp_shared.specs.declared.nodes.place.Place.{Place}
use Rattle.tp_shared.specs.declared.nodes.hand.Hand.{Hand}
use Rattle.tp_shared.specs.declared.nodes.cells.TheConstants.{CELLS, ROW}
use Rattle.tp_shared.specs.Cells.{AreOfCell}

-- each node of the four cells of a row, among `count`
pub record AreOfRow (a b c d : ℕ) (names : ℕ → ℕ) (count : ℕ) (hand : Hand) : Type 0 where
  pub zeroth : AreOfCell a names count hand.places0.items
  pub first : AreOfCell b names count hand.places1.items
  pub second : AreOfCell c names count hand.places2.items
  pub third : AreOfCell d names count hand.places3.items

-- no place was dealt to the row
pub record IsEmptyHand (hand : Hand) : Type 0 where
  pub zeroth : hand.places0.items ≡ []
  pub first : hand.places1.items ≡ []
  pub second : hand.places2.items ≡ []
  pub third : hand.places3.items ≡ []

-- the places of the cell at `at` in a row, with one more at the end if it belongs there
abbrev pub with_place : ℕ → ℕ → Place → List Place → List Place
with_place at index place places = if index % ROW == at then places ++ place ∷ [] else places

-- A place was dealt to its cell, which is in this row.
pub record HasPlace (index : ℕ) (place : Place) (old new : Hand) : Type 0 where
  pub zeroth : new.places0.items ≡ with_place 0 index place old.places0.items
  pub first : new.places1.items ≡ with_place 1 index place old.places1.items
  pub second : new.places2.items ≡ with_place 2 index place old.places2.items
  pub third : new.places3.items ≡ with_place 3 index place old.places3.items

-- A place was dealt to its cell. If the cell is in another row, this row has what it had.
pub record IsRowWith (row index : ℕ) (place : Place) (old new : Hand) : Type 0 where
  pub here : index % CELLS / ROW ≡ row → HasPlace index place old new
  pub away : index % CELLS / ROW ≢ row → new ≡ old
