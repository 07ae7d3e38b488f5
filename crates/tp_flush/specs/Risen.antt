-- What the device had when the mark was raised, and has since.
use Rattle.std.specs.Prelude.{◌≤◌, ℕ, List, drop}
use Rattle.tp_flush.specs.Lower.{AllByRecursion, Entry, NodeState, t414, Network, State, MayHaveLeft, moment, device_areas, World, RecoversTo, Rise}

-- The device had come to the moment at which the mark was raised. Whatever a crash left at that moment or later opens to where a prefix of
-- the journal leads. The prefix has each entry below the number to which the mark was raised.
pub record WasStored (start : Network NodeState) (journal : List Entry) (state : State) (rise : Rise) : Type 0 where
  pub past : rise.moment ≤ moment state
  pub since : (left : List ℕ) → MayHaveLeft state rise.moment left → RecoversTo t414 device_areas start journal rise.to left

-- Each number to which the mark was raised is at most the world's mark, and was stored then. The first is the number with which the mark
-- began.
abbrev pub HaveRisen : Network NodeState → World NodeState → State → List Rise → Type 0
HaveRisen start w state rises = AllByRecursion (λ rise. (rise.to ≤ w.mark) × WasStored start w.journal state rise) (drop 1 rises)
