-- Ports as the book holds them.
use Rattle.std.specs.Prelude.{◌≡◌, ℕ, List, [], ◌∷◌, ◌++◌, length, replicate, Some}
use Rattle.tp_book.specs.Lower.{Token, Data, Ack, Marker, Port, port_took}

-- A port, and for each of its outputs the least mark that shows it: one more than the number of the entry that made it. Every mark shows
-- what the opened state held.
pub record PortValue : Type 0 where
  pub port : Port
  pub marks : List ℕ

-- a port at which nothing has happened
abbrev pub fresh_value : PortValue
fresh_value = record { port = record { pending = []; in_base = 0; outputs = []; out_base = 0 }; marks = [] }

-- the marks after a token was taken whose output this mark shows
abbrev pub marks_after : Token → List ℕ → ℕ → List ℕ
marks_after (Data b) marks mark = marks ++ mark ∷ []
marks_after Ack marks mark = marks
marks_after Marker marks mark = marks

-- a port of an opened state
abbrev pub opened_port : Port → PortValue
opened_port port = record { port = port; marks = replicate (length port.outputs) 0 }

-- the port can take the token
pub record CanTake (port : Port) (token : Token) : Type 0 where
  pub after : Port × List Token
  pub is : port_took token port ≡ Some after
