-- What ports have accepted since the opening.
use Rattle.std.specs.Prelude.{◌≡◌, ◌<◌, ◌+◌, ℕ, List, length}
use Rattle.tp_shared.specs.Lower.{Entry, BookValue, port_in, accepted_of}
use Rattle.tp_shared.specs.BytesIn.{bytes_in}

-- Each port of the book has accepted what these entries hand to it, and before that as many bytes as `accepted` says.
abbrev pub HaveAccepted : (ℕ → ℕ) → List Entry → BookValue → Type 0
HaveAccepted accepted es b = (p : ℕ) → p < length b.state.ports → accepted_of (port_in b p) ≡ accepted p + length (bytes_in p es)
