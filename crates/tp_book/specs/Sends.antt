-- What goes out on which line.
use Rattle.std.specs.Prelude.{ℕ, ◌+◌, ◌*◌, List, [], ◌∷◌, Option, Some, None}
use Rattle.tp_book.specs.Lower.{Token, WireEnd, Link, AtPort}
use Rattle.tp_book.specs.Room.{from_line}

-- the tokens that leave a node, by line
abbrev pub on_lines : ℕ → List (ℕ × Token) → List (ℕ × Token)
on_lines node tokens = from_line (4 * node) tokens

-- a token that is sent on a line, if one is
abbrev pub sends_on : ℕ → Option Token → List (ℕ × Token)
sends_on line None = []
sends_on line (Some token) = (line, token) ∷ []

-- what a node answers to a token, on the line that comes back
abbrev pub answer_from : Option WireEnd → Option Token → List (ℕ × Token)
answer_from None sent = []
answer_from (Some (AtPort p)) sent = []
answer_from (Some (Link i k)) sent = sends_on (4 * i + k) sent
