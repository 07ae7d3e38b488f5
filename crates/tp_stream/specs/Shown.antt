-- Which bytes a stream may put.
use Rattle.std.specs.Prelude.{ℕ, List, Option}
use Rattle.tp_stream.specs.Lower.{AreTrue, NodeState, Network, World, Flushing, Began, IsOfPort}
use Rattle.tp_stream.specs.Put.{LeadsToBytes}

-- The entries of the flusher's journal that are below its mark lead to a network in which these bytes are outputs of the port from the position `from`
-- on. So no crash takes them back.
abbrev pub AreShownAt : Network NodeState → World NodeState → Flushing → ℕ → ℕ → List ℕ → Type 0
AreShownAt start before f port from bytes = AreTrue f.reads → Began start before f.opened → LeadsToBytes start f.world.journal f.world.mark port from bytes

-- Bytes that may be put into a sink at a position: outputs of its port that are shown there.
pub record MayPut (start : Network NodeState) (before : World NodeState) (f : Flushing) (held_of : Option ℕ) (from : ℕ) (bytes : List ℕ) : Type 0 where
  pub port : ℕ
  pub is : IsOfPort port held_of
  pub shown : AreShownAt start before f port from bytes
