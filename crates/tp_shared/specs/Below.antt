-- Slips with numbers below a bound.
use Rattle.std.specs.Prelude.{◌<◌, ℕ, List}
use Rattle.tp_shared.specs.Lower.{AllByRecursion, Entry}

-- the numbers of slips are below this number
abbrev pub AreBelow : ℕ → List (ℕ × Entry) → Type 0
AreBelow number slips = AllByRecursion (λ slip. slip.0 < number) slips
