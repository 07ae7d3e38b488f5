-- What slips are worth: their entries in the flusher's journal, and what a crash leaves of them. Then what a front is.
use Rattle.std.specs.Prelude.{◌≡◌, ◌<◌, ℕ, List, ◌++◌, length, take, Some, slice_get}
use Rattle.tp_flush.specs.Lower.{AllByRecursion, Entry, NodeState, t414, Network, next_number, device_areas, RecoversTo}

-- Each slip's entry is in the journal at its number, if the journal reaches so far.
abbrev pub SlipsStand : List Entry → List (ℕ × Entry) → Type 0
SlipsStand journal slips = AllByRecursion (λ slip. slip.0 < length journal → slice_get journal slip.0 ≡ Some slip.1) slips

-- Each slip's entry is in the journal at its number.
abbrev pub AreIn : List Entry → List (ℕ × Entry) → Type 0
AreIn journal slips = AllByRecursion (λ slip. slice_get journal slip.0 ≡ Some slip.1) slips

-- The bytes open to the network that a prefix of the journal leads to, and the prefix has each slip's entry at its number.
pub record RecoversWith (start : Network NodeState) (journal : List Entry) (least : ℕ) (slips : List (ℕ × Entry)) (bytes : List ℕ) : Type 0 where
  pub recovers : RecoversTo t414 device_areas start journal least bytes
  pub has : AreIn (take (next_number recovers.held) journal) slips

-- The first of them, in order, are those of `front`.
abbrev pub HasFront : List Entry → List Entry → Type 0
HasFront all front = (rest : List Entry) × (all ≡ front ++ rest)
