-- The lines so far are copied, and the others are empty.
use Rattle.std.proofs.Common.{◌≡◌, ◌<◌, ◌≤◌, ℕ, [], length}
use Rattle.tp_model.specs.Network.{on_line}
use Rattle.tp_shared.proofs.flusher.copies.copy_lines.Given as goal

abbrev pub invariant-loop-line : goal.invariant-loop-line
invariant-loop-line l =
    (length l.lines ≡ length l.from)
    × ((k : ℕ) → k < l.line → on_line l.lines k ≡ on_line l.from k)
    × ((k : ℕ) → l.line ≤ k → on_line l.lines k ≡ [])
