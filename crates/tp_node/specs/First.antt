-- What a token puts into memory, before the process is queued that it concerns.
use Rattle.std.specs.Prelude.{◌≡◌, ℕ, List, [], ◌∷◌, ◌++◌, Option, Some, option_and_then}
use Rattle.tp_node.specs.Lower.{byte_stored, stored, byte_ranges, word_range, News, Nobody, Process, Alternative}
use Rattle.tp_model.specs.StepWrites.{◌>>=◌}
use Rattle.tp_node.specs.declared.first.First.{First}
use Rattle.tp_node.specs.declared.first.First.TheVariants.{Nothing, Byte, Word}

-- memory after it
abbrev pub first_stored : First → List ℕ → Option (List ℕ)
first_stored Nothing memory = Some memory
first_stored (Byte address byte) memory = byte_stored memory address byte
first_stored (Word address word) memory = stored memory ((address, word) ∷ [])

-- and after words written next
abbrev pub stored_behind : First → List (ℕ × ℕ) → List ℕ → Option (List ℕ)
stored_behind first writes memory = option_and_then (λ m. stored m writes) (first_stored first memory)

-- the ranges that it writes, and those of what follows it
abbrev pub put_ranges : First → List (ℕ × ℕ)
put_ranges Nothing = []
put_ranges (Byte address byte) = byte_ranges address
put_ranges (Word address word) = word_range address

abbrev pub then_put : First → List ℕ → (List ℕ → List (ℕ × ℕ)) → List (ℕ × ℕ)
then_put first memory rest = first_stored first memory >>= λ m. put_ranges first ++ rest m

-- a token for an alternative puts nothing into memory by itself
abbrev pub GoesWith : First → News → Type 0
GoesWith first Nobody = Unit {0}
GoesWith first (Process descriptor) = Unit {0}
GoesWith first (Alternative descriptor) = first ≡ Nothing
