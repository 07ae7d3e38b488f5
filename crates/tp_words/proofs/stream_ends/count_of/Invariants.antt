-- The files so far are counted.
use Rattle.std.proofs.Common.{◌≡◌, ◌≤◌, take, count_by}
use Rattle.std.specs.Prelude.{◌==◌}
use Rattle.tp_words.proofs.stream_ends.count_of.Given as goal

abbrev pub invariant-loop-file : goal.invariant-loop-file
invariant-loop-file l = (l.count ≡ count_by (λ file. file.port == l.port) (take l.file-index l.files)) × (l.count ≤ l.file-index)
