-- A block that is copied after a first word.
use Rattle.std.specs.Prelude.{ℕ, List, [], ◌∷◌, Option, option_and_then}
use Rattle.tp_model.specs.Memory.{stored, changed}

-- a word is written, then a block is copied, and then words are written
abbrev pub changed_after : List ℕ → ℕ × ℕ → ℕ → ℕ → ℕ → List (ℕ × ℕ) → Option (List ℕ)
changed_after memory first to from count writes =
    option_and_then (λ m. changed m to from count writes) (stored memory (first ∷ []))
