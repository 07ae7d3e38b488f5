-- Where writes of words go.
use Rattle.std.specs.Prelude.{ℕ, Bool, List, nat_lt}
use Rattle.tp_mem.specs.Lower.{list_all, word_offset}

-- each word is inside a memory of `len` bytes
abbrev pub are_inside : ℕ → List (ℕ × ℕ) → Bool
are_inside len writes = list_all (λ write. nat_lt (word_offset write.0) len) writes
