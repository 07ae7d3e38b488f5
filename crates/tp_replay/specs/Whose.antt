-- Which processes a part of a network has.
use Rattle.std.specs.Prelude.{ℕ, ◌&&◌, nat_le, nat_lt, Option, Some, None}
use Rattle.tp_law_network.specs.Piece.{Piece}

-- Those from one on and before another. Without another, they are the host, which comes after the nodes of the network, and every process
-- that doesn't exist. So an entry of such a process stops the host's part.
abbrev pub whose : ℕ → Option ℕ → Piece
whose first (Some past) = λ p. nat_le first p && nat_lt p past
whose first None = λ p. nat_le first p
