-- What is left to do in a network after a run.
use Rattle.std.specs.Prelude.{◌≡◌, ℕ, List, take, Some}
use Rattle.tp_run.specs.Lower.{Entry, NodeState, t414, Network, after, MayBe, State, Follows, Rest, rest_in}

-- The first `number` entries of a journal lead to a network in which exactly `rest` is left to do.
pub record LeadsToRest (start : Network NodeState) (journal : List Entry) (number : ℕ) (rest : Rest) : Type 0 where
  pub state : Network NodeState
  pub leads : after t414 start (take number journal) ≡ Some state
  pub is : rest ≡ rest_in state

-- Exactly `rest` is left to do in the network to which the first `next` entries of a journal lead. Whatever a crash leaves of the device has all these
-- entries.
pub record RestsAt (start : Network NodeState) (rest : Rest) (next : ℕ) (old new : State) : Type 0 where
  pub journal : List Entry
  pub stored : (left : List ℕ) → MayBe new.now left → Follows start journal next old.now.bytes left
  pub says : LeadsToRest start journal next rest
