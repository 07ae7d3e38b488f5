-- Nodes in runs of neighbours, and the parts of a network that have them.
use Rattle.std.specs.Prelude.{◌≡◌, ◌<◌, ℕ, zero, suc, ◌+◌, ◌-◌, nat_lt, if◌then◌else◌, List, [], ◌∷◌, ◌++◌, length, get_or, Some, None}
use Rattle.tp_law_network.specs.Piece.{Piece}
use Rattle.tp_replay.specs.Dealt.{first_of}
use Rattle.tp_replay.specs.Whose.{whose}

-- a run: its first node, and the first one after it
abbrev pub NodeRun : Type 0
NodeRun = ℕ × ℕ

-- the run, if it has a node
abbrev pub some_run : ℕ → ℕ → List NodeRun
some_run first past = if nat_lt first past then (first, past) ∷ [] else []

-- the runs of the first `count` of several workers, without those that have no node
unfoldable pub runs : ℕ → ℕ → ℕ → List NodeRun
runs nodes workers zero = []
runs nodes workers (suc w) = runs nodes workers w ++ some_run (first_of nodes workers w) (first_of nodes workers (w + 1))

-- the run at a place
abbrev pub run_at : List NodeRun → ℕ → NodeRun
run_at rs i = get_or rs i (0, 0)

-- Each run has a node. They go from node `first` up to node `past`, and each begins where the one before it ends.
abbrev pub AreNeighbours : ℕ → ℕ → List NodeRun → Type 0
AreNeighbours first past [] = first ≡ past
AreNeighbours first past (r ∷ rs) = (r.0 ≡ first) × (r.0 < r.1) × AreNeighbours r.1 past rs

-- The pieces have the runs, in their order, and the last piece has the host, and every number from `nodes` on.
pub record AreDealt (nodes : ℕ) (rs : List NodeRun) (count : ℕ) (pieces : ℕ → Piece) : Type 0 where
  pub chain : AreNeighbours 0 nodes rs
  pub many : count ≡ length rs + 1
  pub run : (i : ℕ) → i < length rs → pieces i ≡ whose (run_at rs i).0 (Some (run_at rs i).1)
  pub host : pieces (length rs) ≡ whose nodes None
