-- The ports so far are counted.
use Rattle.std.proofs.Common.{◌≡◌, ◌≤◌, take, count_by}
use Rattle.std.specs.Prelude.{◌==◌}
use Rattle.tp_words.proofs.stream_ends.discard_count.Given as goal

abbrev pub invariant-loop-other : goal.invariant-loop-other
invariant-loop-other l = (l.count ≡ count_by (λ other. other == l.port) (take l.other-index l.discards)) × (l.count ≤ l.other-index)
