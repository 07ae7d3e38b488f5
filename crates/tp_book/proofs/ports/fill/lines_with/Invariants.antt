-- The lines so far hold their tokens, and the others are empty.
use Rattle.std.proofs.Common.{◌≡◌, ◌<◌, ◌≤◌, ℕ, [], length, map}
use Rattle.tp_model.specs.Network.{on_line}
use Rattle.tp_book.proofs.ports.fill.lines_with.Given as goal

abbrev pub invariant-loop-line : goal.invariant-loop-line
invariant-loop-line l =
    (length l.lines ≡ length l.tokens)
    × ((k : ℕ) → k < l.line → on_line l.lines k ≡ on_line (map (λ line. line.items) l.tokens) k)
    × ((k : ℕ) → l.line ≤ k → on_line l.lines k ≡ [])
