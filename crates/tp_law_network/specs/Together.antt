-- A network put together from its pieces.
use Rattle.std.specs.Prelude.{◌≡◌, ◌<◌, ℕ, true, length}
use Rattle.tp_model.specs.Network.{Network, own, on_line}
use Rattle.tp_law_network.specs.Piece.{Piece, sends}

-- w has v's wires, its number of nodes and its number of lines
pub record IsShapedAs {Node : Type 0} (v w : Network Node) : Type 0 where
  pub wires : w.wires ≡ v.wires
  pub nodes : length w.nodes ≡ length v.nodes
  pub count : length w.lines ≡ length v.lines

-- In w, each process and each line that it sends is as the pieces with that process have it; `v` gives the network of each piece. Wires and
-- counts are those of one of them.
pub record IsTogether {Node : Type 0} (count : ℕ) (pieces : ℕ → Piece) (v : ℕ → Network Node) (w : Network Node) : Type 0 where
  pub shape : (i : ℕ) × (i < count) × IsShapedAs (v i) w
  pub own : (i : ℕ) → i < count → (p : ℕ) → pieces i p ≡ true → own w p ≡ own (v i) p
  pub lines : (i : ℕ) → i < count → (l : ℕ) → sends (pieces i) (length w.nodes) l ≡ true → on_line w.lines l ≡ on_line (v i).lines l
