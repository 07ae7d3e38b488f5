-- The files so far are counted.
use Rattle.std.proofs.Common.{◌≡◌, ◌≤◌, take}
use Rattle.tp_words.specs.Ends.{standard_count}
use Rattle.tp_words.proofs.stream_ends.standards.Given as goal

abbrev pub invariant-loop-file : goal.invariant-loop-file
invariant-loop-file l = (l.count ≡ standard_count (take l.file-index l.files)) × (l.count ≤ l.file-index)
