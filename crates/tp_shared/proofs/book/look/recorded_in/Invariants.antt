-- The nodes so far were read.
use Rattle.std.proofs.Common.{◌≡◌, ◌<◌, ℕ, false, length, get_or}
use Rattle.tp_shared.proofs.Lower.{MAX_NODES, has_recorded_in}
use Rattle.tp_shared.proofs.book.look.recorded_in.Given as goal

abbrev pub invariant-loop-node : goal.invariant-loop-node
invariant-loop-node l = (length l.recorded ≡ MAX_NODES) × ((i : ℕ) → i < l.node → get_or l.recorded i false ≡ has_recorded_in l.book.state.snapshot i)
