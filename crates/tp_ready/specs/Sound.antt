-- What slips say of their roll, and of one another.
use Rattle.std.specs.Prelude.{◌≡◌, ℕ, zero, suc, List, [], ◌∷◌}

module _ {V : Type 0} where
  -- the item at the number, in a list whose first item has the number `first`: one, or none
  abbrev pub item_of : ℕ → List V → ℕ → List V
  item_of zero [] number = []
  item_of zero (item ∷ items) zero = item ∷ []
  item_of zero (item ∷ items) (suc number) = item_of zero items number
  item_of (suc first) items zero = []
  item_of (suc first) items (suc number) = item_of first items number

  -- the item, if it has the number in question, and then the others
  abbrev pub add_if : ℕ → ℕ → V → List V → List V
  add_if zero zero item items = item ∷ items
  add_if zero (suc number) item items = items
  add_if (suc wanted) zero item items = items
  add_if (suc wanted) (suc number) item items = add_if wanted number item items

  -- what the slips of the number show, in order
  abbrev pub shown : ℕ → List (ℕ × V) → List V
  shown number [] = []
  shown number (slip ∷ slips) = add_if number slip.0 slip.1 (shown number slips)

  -- no slip has the number
  abbrev pub IsAway : ℕ → List (ℕ × V) → Type 0
  IsAway number [] = Unit {0}
  IsAway number (slip ∷ slips) = (¬ (slip.0 ≡ number)) × IsAway number slips

  -- no slip of the first has the number of one in the second
  abbrev pub AreApart : List (ℕ × V) → List (ℕ × V) → Type 0
  AreApart [] others = Unit {0}
  AreApart (slip ∷ slips) others = IsAway slip.0 others × AreApart slips others

  -- each slip shows the item of its number, and no two slips have one number
  abbrev pub Sound : (ℕ → List V) → List (ℕ × V) → Type 0
  Sound item [] = Unit {0}
  Sound item (slip ∷ slips) = (item slip.0 ≡ slip.1 ∷ []) × IsAway slip.0 slips × Sound item slips
