-- A byte and words that are written together.
use Rattle.std.specs.Prelude.{ℕ, List, Option, option_and_then}
use Rattle.tp_model.specs.Memory.{byte_stored, stored}

-- a byte is written, and then words: `None` if an address is outside
abbrev pub byte_changed : List ℕ → ℕ → ℕ → List (ℕ × ℕ) → Option (List ℕ)
byte_changed memory address byte writes = option_and_then (λ m. stored m writes) (byte_stored memory address byte)
