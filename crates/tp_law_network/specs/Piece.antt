-- A piece of a network: some of its processes, and the lines that these send. A part is a piece with its state: a network in which only
-- what belongs to the piece's own processes and lines counts.
use Rattle.std.specs.Prelude.{◌≡◌, ◌<◌, ℕ, Bool, true, if◌then◌else◌, List, [], ◌∷◌, length}
use Rattle.tp_law_network.specs.Lower.{Token, Network, own, on_line, owner}

-- which processes a piece has, by their numbers
abbrev pub Piece : Type 0
Piece = ℕ → Bool

-- the piece has the process that sends the line
abbrev pub sends : Piece → ℕ → ℕ → Bool
sends has N line = has (owner N line)

-- the tokens that are on lines which the piece sends, out of tokens with their lines
unfoldable pub from_piece : Piece → ℕ → List (ℕ × Token) → List (ℕ × Token)
from_piece has N [] = []
from_piece has N (m ∷ ms) = if sends has N m.0 then m ∷ from_piece has N ms else from_piece has N ms

-- Each process is in at least one of the first `count` pieces. That is said of every number, since an entry of a node that doesn't exist
-- belongs to a process, too, and so does a line that doesn't exist.
abbrev pub Covers : ℕ → (ℕ → Piece) → Type 0
Covers count pieces = (p : ℕ) → (i : ℕ) × (i < count) × (pieces i p ≡ true)

-- In u, the piece's processes and the lines that they send are as they are in s. The wires of u and its numbers of nodes, ports and lines
-- are those of s, too. Whatever else it has may differ.
pub record Agrees {Node : Type 0} (has : Piece) (s u : Network Node) : Type 0 where
  pub wires : u.wires ≡ s.wires
  pub nodes : length u.nodes ≡ length s.nodes
  pub ports : length u.ports ≡ length s.ports
  pub count : length u.lines ≡ length s.lines
  pub own : (p : ℕ) → has p ≡ true → own u p ≡ own s p
  pub lines : (l : ℕ) → sends has (length s.nodes) l ≡ true → on_line u.lines l ≡ on_line s.lines l
