-- Entries that may be after a cut.
use Rattle.std.specs.Prelude.{◌≤◌, ℕ, ◌+◌, ◌-◌, List, map, length}
use Rattle.tp_tests_opening.specs.Lower.{AllByRecursion, Entry, NUMBER_LIMIT, IsSpelt, AreNumbered}

-- they are spelt, and numbered after a cut of `base` entries
pub record AreTailOf (base : ℕ) (tail : List (Entry × ℕ)) : Type 0 where
  pub spelt : AllByRecursion (λ e. IsSpelt e.0 e.1) tail
  pub numbers : AreNumbered 0 base (map (λ e. e.1) tail)
  pub last : base + length tail ≤ NUMBER_LIMIT - 1
