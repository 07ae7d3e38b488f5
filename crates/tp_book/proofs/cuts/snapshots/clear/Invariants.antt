-- The counts so far are 0.
use Rattle.std.proofs.Common.{◌≡◌, ◌<◌, ℕ, length, get_or}
use Rattle.tp_book.proofs.cuts.snapshots.clear.Given as goal

abbrev pub invariant-loop-process : goal.invariant-loop-process
invariant-loop-process l =
    (length l.counts.items ≡ length l.initial.counts.items)
    × ((p : ℕ) → p < l.process → get_or l.counts.items p 0 ≡ 0)
