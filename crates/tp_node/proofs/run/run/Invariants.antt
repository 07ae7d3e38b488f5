use Rattle.std.proofs.Common.{◌≤◌, ◌-◌, ℕ, List}
use Rattle.tp_node.proofs.Lower.{NodeState, Kept, Token}
use Rattle.tp_node.specs.StateWith.{state_with}
use Rattle.tp_node.proofs.RunSoFar.{Runs}
use Rattle.tp_node.proofs.run.run.Given as goal

-- at most as many steps were made as the call allows
pub record RunsWithin (max count : ℕ) (before now : NodeState) (sent : List (ℕ × Token)) (was now_kept : Kept) : Type 0 where
  pub runs : Runs count before now sent was now_kept
  pub most : count ≤ max

abbrev pub invariant-loop-count : goal.invariant-loop-count
invariant-loop-count g l =
    RunsWithin l.max l.count (state_with l.fn.head (g.M.Mem.bytes l.fn.mem)) (state_with l.head (g.M.Mem.bytes l.mem)) l.sent.items (g.M.Mem.kept l.fn.mem) (g.M.Mem.kept l.mem)

abbrev pub decreases-loop-count : goal.decreases-loop-count
decreases-loop-count g l = l.max - l.count
