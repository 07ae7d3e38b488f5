-- What an entry does to a piece of a network.
use Rattle.std.specs.Prelude.{if◌then◌else◌, length, Option, Some}
use Rattle.tp_law_network.specs.Lower.{Entry, ◌>>=◌, Machine, Network, taken, process, takes, acts}
use Rattle.tp_law_network.specs.Piece.{Piece, from_piece}

-- A piece after an entry of any process. The entry's tokens on lines which the piece sends must be at the front there, and are taken. So
-- the sender's piece compares, and not the receiver's. If the entry is one of the piece's own processes', that process does it with the
-- tokens that the entry names, wherever they came from. Nothing else of the network matters.
unfoldable pub next_in : {Node : Type 0} → Machine Node → Piece → Network Node → Entry → Option (Network Node)
next_in M has s e = do
  lines ← taken s.lines (from_piece has (length s.nodes) (takes s.wires (length s.nodes) e))
  if has (process s.wires (length s.nodes) e) then acts M s lines e else Some (record s { lines = lines })
