-- Room on lines.
use Rattle.std.specs.Prelude.{◌≡◌, ◌<◌, ℕ, ◌+◌, Bool, true, List, [], ◌∷◌, map, length}
use Rattle.tp_book.specs.Lower.{Token, LINE_TOKENS, on_line, pushed}

-- The tokens can be sent in order: each finds room on its line, if that is open.
abbrev pub HasRoom : (ℕ → Bool) → List (List Token) → List (ℕ × Token) → Type 0
HasRoom on lines [] = Unit {0}
HasRoom on lines (m ∷ ms) = (on m.0 ≡ true → length (on_line lines m.0) < LINE_TOKENS) × HasRoom on (pushed on lines m.0 m.1) ms

-- the tokens that leave a node, each on the line of its link, from the node's first line on
abbrev pub from_line : ℕ → List (ℕ × Token) → List (ℕ × Token)
from_line first tokens = map (λ m. (first + m.0, m.1)) tokens
