-- What was typed for an option.
use Rattle.std.specs.Prelude.{◌≡◌, ◌++◌, ◌||◌, ℕ, Bool, false, List, [], ◌∷◌, Option, Some, None, if◌then◌else◌, length, take, drop, codes, string_bytes, nat_eq}
use Rattle.tp_words.specs.Lower.{pointwise, decimal, cons_option, option_or, Global, String}
use Rattle.tp_words.specs.Typed.{is_word}

-- what is after an ending, if the bytes begin with it
abbrev pub value_in : List ℕ → List ℕ → Option (List ℕ)
value_in ending bytes = if pointwise nat_eq (take (length ending) bytes) ending then Some (drop (length ending) bytes) else None

-- the text of the first word
abbrev pub first_text : List (String Global) → Option (List ℕ)
first_text [] = None
first_text (word ∷ words) = Some (string_bytes word)

-- what was typed for the option of a name, whose ending is the name with `=` after it: the word after the name, or what is after the ending,
-- whichever comes first; `None` after a word `--`
abbrev pub given_in : List ℕ → List ℕ → List (String Global) → Option (List ℕ)
given_in name ending [] = None
given_in name ending (word ∷ words) =
    if is_word (codes "--") word then None
    else (if is_word name word then first_text words
    else option_or (value_in ending (string_bytes word)) (given_in name ending words))

-- what was typed for an option; the first word is the program's name
abbrev pub given : List ℕ → List (String Global) → Option (List ℕ)
given id words = given_in (codes "--" ++ id) (codes "--" ++ (id ++ codes "=")) (drop 1 words)

-- what a word says for the option of a name, whose ending is the name with `=` after it, if these words are after it
abbrev pub value_of : List ℕ → List ℕ → String Global → List (String Global) → Option (List ℕ)
value_of name ending word words = if is_word name word then first_text words else value_in ending (string_bytes word)

-- all that was typed for an option that may be there several times, in order; none after a word `--`
abbrev pub all_given_in : List ℕ → List ℕ → List (String Global) → List (List ℕ)
all_given_in name ending [] = []
all_given_in name ending (word ∷ words) =
    if is_word (codes "--") word then [] else cons_option (value_of name ending word words) (all_given_in name ending words)

abbrev pub all_given : List ℕ → List (String Global) → List (List ℕ)
all_given id words = all_given_in (codes "--" ++ id) (codes "--" ++ (id ++ codes "=")) (drop 1 words)

-- a flag of this name was typed: one of the words is it, and no word `--` is before that
abbrev pub has_flag_in : List ℕ → List (String Global) → Bool
has_flag_in name [] = false
has_flag_in name (word ∷ words) = if is_word (codes "--") word then false else (is_word name word || has_flag_in name words)

abbrev pub has_flag : List ℕ → List (String Global) → Bool
has_flag name words = has_flag_in name (drop 1 words)

-- the number is the decimal that was typed, or that one if none was
abbrev pub IsGivenOr : ℕ → ℕ → Option (List ℕ) → Type 0
IsGivenOr fallback number None = number ≡ fallback
IsGivenOr fallback number (Some text) = text ≡ decimal number
