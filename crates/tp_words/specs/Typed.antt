-- Words that were typed.
use Rattle.std.specs.Prelude.{ℕ, Bool, List, string_bytes, bytes_eq}
use Rattle.tp_words.specs.Lower.{list_any, Global, String}

-- a word is this one
abbrev pub is_word : List ℕ → String Global → Bool
is_word text word = bytes_eq (string_bytes word) text

-- one of the words is this one
abbrev pub has_word : List ℕ → List (String Global) → Bool
has_word text words = list_any (is_word text) words
