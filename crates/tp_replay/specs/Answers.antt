-- What a call that applies an entry answers and leaves.
use Rattle.std.specs.Prelude.{◌≡◌, ◌⊎◌, ◌<◌, ◌≤◌, ℕ, List, Option, Some, None, Result, Ok, Err, slice_get}
use Rattle.tp_replay.specs.Lower.{Entry, Run, Take, HostIn, Confirm, Turn, NodeState, Token, Received, t414, node_step, Network, steps, next}
use Rattle.tp_replay.specs.declared.fault.NotPossible.{NotPossible}

-- The network after it, exactly if it is possible.
abbrev pub AppliesEntry : Option (Network NodeState) → Result (Unit {0}) NotPossible → Network NodeState → Type 0
AppliesEntry (Some after) (Ok done) now = now ≡ after
AppliesEntry (Some after) (Err fault) now = ⊥
AppliesEntry None (Ok done) now = ⊥
AppliesEntry None (Err fault) now = Unit {0}

-- The node made fewer steps than the `count` that it can't all make.
pub record RanShort (s : Network NodeState) (node count : ℕ) (now : Network NodeState) : Type 0 where
  pub made : ℕ
  pub fewer : made < count
  pub is : next t414 s (Run node made) ≡ Some now

-- The node took what its turn takes, and made fewer steps than the `count` that it can't all make.
pub record TurnCutShort (s : Network NodeState) (node : ℕ) (takes : List Received) (count : ℕ) (now : Network NodeState) : Type 0 where
  pub made : ℕ
  pub fewer : made < count
  pub is : next t414 s (Turn node takes made) ≡ Some now

-- What an entry that isn't possible leaves: the network as it was, or a run or the steps of a turn are cut short.
abbrev pub LeavesShort : Network NodeState → Entry → Network NodeState → Type 0
LeavesShort s (Run node count) now = (now ≡ s) ⊎ RanShort s node count now
LeavesShort s (Take line token) now = now ≡ s
LeavesShort s (HostIn port byte) now = now ≡ s
LeavesShort s (Confirm port upto) now = now ≡ s
LeavesShort s (Turn node takes count) now = (now ≡ s) ⊎ TurnCutShort s node takes count now

-- A node ran for at most `most` steps: `count` were made, and fewer than `most` only if the node has no step then. Without a step the
-- network is as it was.
pub record RanUpTo (s : Network NodeState) (node most count : ℕ) (now : Network NodeState) : Type 0 where
  pub few : count ≤ most
  pub before : NodeState
  pub there : slice_get s.nodes node ≡ Some before
  pub behind : NodeState
  pub stands : slice_get now.nodes node ≡ Some behind
  pub tokens : List (ℕ × Token)
  pub made : steps t414 count before ≡ Some (behind, tokens)
  pub none : count ≡ 0 → now ≡ s
  pub some : 0 < count → next t414 s (Run node count) ≡ Some now
  pub all : count < most → node_step behind ≡ None

-- A node took what a turn takes, and then ran for at most `most` steps: `count` were made, and fewer only if no more are possible.
pub record TurnedUpTo (s : Network NodeState) (node : ℕ) (takes : List Received) (most count : ℕ) (now : Network NodeState) : Type 0 where
  pub few : count ≤ most
  pub is : next t414 s (Turn node takes count) ≡ Some now
  pub all : count < most → next t414 s (Turn node takes most) ≡ None
