-- A node that has an image and keeps one, whatever it does.
use Rattle.std.specs.Prelude.{ℕ, ◌<◌, List, Some, None}
use Rattle.tp_law_machine.specs.Lower.{AllByRecursion, Token, Data, Ack, Marker, InEnd, Idle, Inputs, Enabled, IsNode, NodeState}

-- what a token carries is a byte
abbrev pub CarriesByte : Token → Type 0
CarriesByte (Data byte) = byte < 256
CarriesByte Ack = Unit {0}
CarriesByte Marker = Unit {0}

-- what an input end holds is a byte
abbrev pub HoldsByte : InEnd → Type 0
HoldsByte (Idle None) = Unit {0}
HoldsByte (Idle (Some byte)) = byte < 256
HoldsByte (Inputs t) = Unit {0}
HoldsByte (Enabled process) = Unit {0}

-- A node that has an image, with bytes in its memory and at its input ends.
pub record IsNodeOfBytes (node : NodeState) : Type 0 where
  pub image : IsNode node
  pub memory : AllByRecursion (λ byte. byte < 256) node.memory
  pub held : AllByRecursion HoldsByte node.inputs

-- what leaves carries bytes
abbrev pub CarryBytes : List (ℕ × Token) → Type 0
CarryBytes sent = AllByRecursion (λ m. CarriesByte m.1) sent
