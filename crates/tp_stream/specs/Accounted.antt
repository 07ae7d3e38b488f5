-- Who made each entry that a stream journalled.
use Rattle.std.specs.Prelude.{◌≡◌, ◌⊎◌, ℕ, List, [], ◌++◌, map, drop}
use Rattle.tp_stream.specs.Lower.{Network, NodeState, Entry, handed, BrokenOff, Turned, Turn, AreAll}

-- These slips were made by turns of nodes and of the host, and by nothing else. A turn that was done made those of its entries, and a turn that broke
-- off those of the tokens that it had taken. The slips of one thread's turns may come after those of another's.
pub data MadeByTurns (network : Network NodeState) : List (ℕ × Entry) → Type 0 where
  idle : MadeByTurns network []
  turned : (quantum : ℕ) (turn : Turn) (old new : List (ℕ × Entry)) → MadeByTurns network old → Turned network quantum turn old new → MadeByTurns network new
  broken : (old new : List (ℕ × Entry)) → MadeByTurns network old → BrokenOff network old new → MadeByTurns network new
  joined : (some others : List (ℕ × Entry)) → MadeByTurns network some → MadeByTurns network others → MadeByTurns network (some ++ others)

-- One turn of at most `quantum` steps made those of these slips that are new. It was done, or broke off.
abbrev pub MadeByOne : Network NodeState → ℕ → List (ℕ × Entry) → List (ℕ × Entry) → Type 0
MadeByOne network quantum old new = ((turn : Turn) × Turned network quantum turn old new) ⊎ BrokenOff network old new

-- Each entry of the journal from the number `first` on was made once, by the host or by a turn: there is one slip of it, and no slip of anything else.
-- The host made just those that hand in bytes or confirm outputs, in order. `next` is the number after the last entry.
pub record Accounted (network : Network NodeState) (journal : List Entry) (first next : ℕ) : Type 0 where
  pub host : List (ℕ × Entry)
  pub are : map (λ slip. slip.1) host ≡ handed (drop first journal)
  pub turns : List (ℕ × Entry)
  pub made : MadeByTurns network turns
  pub all : AreAll first next journal (host ++ turns)

-- As a stream ends: the journal has `next` entries, these slips are those of its entries from the number `first` on, and the host's key shows all that
-- the host handed in since.
pub record AreAllSlips (first next : ℕ) (journal : List Entry) (slips : List (ℕ × Entry)) (key : List Entry) : Type 0 where
  pub all : AreAll first next journal slips
  pub given : handed (drop first journal) ≡ key
