-- The nodes of a network, dealt to workers in runs of neighbours.
use Rattle.std.specs.Prelude.{ℕ, ◌+◌, ◌*◌, ◌/◌, ◌&&◌, nat_lt, nat_le, if◌then◌else◌}
use Rattle.tp_law_network.specs.Piece.{Piece}

-- the first node of worker w; the last worker's run ends where that of one more worker would begin
abbrev pub first_of : ℕ → ℕ → ℕ → ℕ
first_of nodes workers w = w * nodes / workers

-- a worker's nodes
abbrev pub nodes_of : ℕ → ℕ → ℕ → Piece
nodes_of nodes workers w = λ p. nat_le (first_of nodes workers w) p && nat_lt p (first_of nodes workers (w + 1))

-- The pieces of all workers, and after them the host's, which has every number that is no node's.
abbrev pub dealt : ℕ → ℕ → ℕ → Piece
dealt nodes workers i = if nat_lt i workers then nodes_of nodes workers i else (λ p. nat_le nodes p)
