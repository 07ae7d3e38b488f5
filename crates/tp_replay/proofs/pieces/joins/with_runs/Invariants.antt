-- The first runs are left, and those after them are joined.
use Rattle.std.proofs.Common.{◌≡◌, length, take, vec_len}
use Rattle.tp_replay.proofs.Lower.{NodeState, Network}
use Rattle.tp_replay.specs.Joining.{AreBefore, HoldsFrom}
use Rattle.tp_replay.proofs.Rejoined.{start_at}
use Rattle.tp_replay.proofs.pieces.joins.with_runs.Given as goal

abbrev pub invariant-loop-part : goal.invariant-loop-part
invariant-loop-part l =
    (l.runs.items ≡ take (length l.runs.items) l.initial.runs.items)
    × ((t : Network NodeState) (B : AreBefore t l.initial.runs.items l.initial.apart) → HoldsFrom t (start_at (length t.nodes) B.rs (length l.runs.items)) l.apart)

abbrev pub decreases-loop-part : goal.decreases-loop-part
decreases-loop-part l = vec_len l.runs
