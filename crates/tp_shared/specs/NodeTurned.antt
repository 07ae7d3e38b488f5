-- What a turn of a node does to a seat.
use Rattle.std.specs.Prelude.{◌≡◌, ◌≤◌, ◌⊎◌, ℕ, List, length}
use Rattle.tp_shared.specs.Lower.{Entry, Received, NodeState, Network, by_link, turn_entries, run_entries}
use Rattle.tp_shared.specs.Entries.{CountedTakes}
use Rattle.tp_shared.specs.Gains.{Gained}
use Rattle.tp_shared.specs.declared.nodes.node_turn.NodeTurn.{NodeTurn}

-- Each token that the node took is an entry, and then its run is one, if it made a step.
pub record TookApart (start : Network NodeState) (number : ℕ) (turn : NodeTurn) (seat_old seat_new : List (ℕ × Entry)) : Type 0 where
  pub between : List (ℕ × Entry)
  pub took : Gained (CountedTakes start number turn.taken) seat_old between
  pub ran : Gained (λ entries. entries ≡ run_entries number turn.ran.count) between seat_new

-- What the node received, and its run, are one entry: a Run if it received nothing. If it made no step, either, there is no entry.
pub record TurnedWhole (number : ℕ) (turn : NodeTurn) (seat_old seat_new : List (ℕ × Entry)) : Type 0 where
  pub takes : List Received
  pub many : turn.taken ≡ length (by_link 0 takes)
  pub gained : Gained (λ entries. entries ≡ turn_entries number takes turn.ran.count) seat_old seat_new

-- The node took the number of tokens that the turn says, and then made its number of steps, at most `quantum`. The seat has the slips of
-- exactly the turn's entries.
pub record NodeTurned (start : Network NodeState) (number quantum : ℕ) (turn : NodeTurn) (seat_old seat_new : List (ℕ × Entry)) : Type 0 where
  pub asked : turn.ran.max ≡ quantum
  pub few : turn.ran.count ≤ quantum
  pub did : TookApart start number turn seat_old seat_new ⊎ TurnedWhole number turn seat_old seat_new
