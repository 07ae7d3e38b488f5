-- The tokens at the front of a line.
use Rattle.std.specs.Prelude.{ℕ, Bool, true, ◌&&◌, List, [], ◌∷◌, drop, Option}
use Rattle.tp_replay.specs.Lower.{Token, WireEnd, receiver, on_line, is_first, incoming, is_link}

-- the tokens are the first of the line
abbrev pub starts_with : List Token → List Token → Bool
starts_with line [] = true
starts_with line (token ∷ tokens) = is_first line token && starts_with (drop 1 line) tokens

-- they are the first of the line that comes in on link k of node i; without any, of no line
abbrev pub link_stands : List (Option WireEnd) → ℕ → List (List Token) → ℕ → ℕ → List Token → Bool
link_stands wires N lines i k [] = true
link_stands wires N lines i k (token ∷ tokens) =
    is_link i k (receiver wires (incoming wires N i k)) && starts_with (on_line lines (incoming wires N i k)) (token ∷ tokens)
