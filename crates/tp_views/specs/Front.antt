-- What is on an output if not all was written.
use Rattle.std.specs.Prelude.{◌≡◌, ◌⊎◌, ℕ, List, Option, take, Ok}
use Rattle.tp_views.specs.Lower.{Appends, Opened, verdict}

-- some of the first bytes were appended
abbrev pub AppendsFront : Option (List ℕ) → Option (List ℕ) → List ℕ → Type 0
AppendsFront was now bytes = (n : ℕ) × Appends was now (take n bytes)

-- Nothing was appended; or the device opens, and some of the first bytes of what is printed of it were appended.
abbrev pub PrintsFront : (Opened → List ℕ) → List ℕ → Option (List ℕ) → Option (List ℕ) → Type 0
PrintsFront text bytes was now = (now ≡ was) ⊎ ((opened : Opened) × (verdict bytes ≡ Ok opened) × AppendsFront was now (text opened))
