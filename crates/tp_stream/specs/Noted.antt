-- What a stream's seats and the host's key show, while it goes on.
use Rattle.std.specs.Prelude.{◌≡◌, ℕ, List, map}
use Rattle.tp_stream.specs.Lower.{Network, NodeState, Entry, OutputValue}
use Rattle.tp_stream.specs.Accounted.{MadeByTurns}
use Rattle.tp_stream.specs.Confirmed.{AreConfirmsPut}

-- The seat of steps has the slips of exactly the entries that the host's key shows, in order. What these confirm was put.
pub record StepsNoted (outputs : List OutputValue) (steps : List (ℕ × Entry)) (host : List Entry) : Type 0 where
  pub slips : map (λ slip. slip.1) steps ≡ host
  pub confirms : AreConfirmsPut outputs host

-- So it is, and turns made what the seat of turns has.
pub record AllNoted (network : Network NodeState) (outputs : List OutputValue) (turns steps : List (ℕ × Entry)) (host : List Entry) : Type 0 where
  pub made : MadeByTurns network turns
  pub noted : StepsNoted outputs steps host
