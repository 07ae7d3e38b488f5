-- A part of a network, as contracts see it.
use Rattle.std.specs.Prelude.{ℕ, Option}
use Rattle.tp_replay.specs.Lower.{NodeState, Network, Piece}
use Rattle.tp_replay.specs.Whose.{whose}

-- The first process that it has, and the first after it that it hasn't, if there is one; and a network with its processes and the lines as
-- the part has them. Other nodes and ports are blank there.
pub record HeldPart : Type 0 where
  pub first : ℕ
  pub past : Option ℕ
  pub network : Network NodeState

-- which processes it has
abbrev pub has : HeldPart → Piece
has held = whose held.first held.past
