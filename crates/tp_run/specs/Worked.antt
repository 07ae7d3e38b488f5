-- What a worker's turns made.
use Rattle.std.specs.Prelude.{ℕ, ◌+◌, List, []}
use Rattle.tp_run.specs.Lower.{Entry, NodeState, Network, Refused, Turned, TurnFault, Turn}

-- These slips were made by this number of turns of one worker, in order, and by nothing else. A turn that was done made those of its entries. A refused
-- turn made those of the tokens that it had taken. The numbers rise.
pub data Worked (network : Network NodeState) (quantum : ℕ) : ℕ → List (ℕ × Entry) → Type 0 where
  idle : Worked network quantum 0 []
  turned : (turn : Turn) (turns : ℕ) (old new : List (ℕ × Entry)) → Worked network quantum turns old → Turned network quantum turn old new → Worked network quantum (turns + 1) new
  refused : (fault : TurnFault) (turns : ℕ) (old new : List (ℕ × Entry)) → Worked network quantum turns old → Refused network fault old new → Worked network quantum (turns + 1) new
