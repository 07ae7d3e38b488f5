-- What remains of a device that had opened: nothing that it had is lost.
use Rattle.std.specs.Prelude.{◌≡◌, ◌≤◌, ℕ, List, take, Some, Ok}
use Rattle.tp_flush.specs.Lower.{Entry, NodeState, t414, Network, after, next_number, device_areas, Opened, next_of, verdict, World, RecoversTo}
use Rattle.tp_flush.specs.Known.{Began}

-- `was` opens to the network to which the journal's entries below its next number lead. `left` opens to the network that a prefix of the journal
-- leads to, and the prefix has all of them, and each entry below `least`. A process may begin with it again.
pub record Follows (start : Network NodeState) (journal : List Entry) (least : ℕ) (was left : List ℕ) : Type 0 where
  pub opened : Opened
  pub reads : verdict was ≡ Ok opened
  pub had : after t414 start (take (next_of opened) journal) ≡ Some opened.now
  pub recovers : RecoversTo t414 device_areas start journal least left
  pub keeps : next_of opened ≤ next_number recovers.held
  pub world : World NodeState
  pub begins : Began start world left
