-- How many slips there are.
use Rattle.std.specs.Prelude.{◌≡◌, ℕ, ◌-◌, ◌^◌, List, length, min}
use Rattle.tp_model.specs.declared.entry.Entry.{Entry}

-- The number of the slips, up to the greatest number.
abbrev pub IsSlipCount : ℕ → List (ℕ × Entry) → Type 0
IsSlipCount count slips = count ≡ min (length slips) (2 ^ 64 - 1)
