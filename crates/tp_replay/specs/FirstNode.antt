-- The first node of a part.
use Rattle.std.specs.Prelude.{◌≡◌, ◌<◌, ℕ, false, true}
use Rattle.tp_law_network.specs.Piece.{Piece}

-- The first `count` processes are nodes: of these the part has this one, and none before it.
pub record IsFirstNode (has : Piece) (count node : ℕ) : Type 0 where
  pub there : node < count
  pub its : has node ≡ true
  pub first : (n : ℕ) → n < node → has n ≡ false

-- it has no node
abbrev pub HasNoNode : Piece → ℕ → Type 0
HasNoNode has count = (n : ℕ) → n < count → has n ≡ false
