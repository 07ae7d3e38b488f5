-- An output after a word that is stored first.
use Rattle.std.specs.Prelude.{ℕ, ◌==◌, if◌then◌else◌, List, [], ◌++◌, Option, None}
use Rattle.tp_node.specs.Lower.{word_ranges, save_writes, LinkOutcome, begin_output, Cpu, OutEnd, OutRequest, held, first_ranges}
use Rattle.tp_model.specs.LinkStep.{◌>>=◌}

abbrev pub output_after : Option (ℕ × ℕ) → OutRequest → OutEnd → Cpu → List ℕ → LinkOutcome OutEnd
output_after first request end cpu memory = held first memory >>= begin_output (record request { word = None }) end cpu

-- the ranges that it writes
abbrev pub output_after_ranges : Option (ℕ × ℕ) → OutRequest → Cpu → List (ℕ × ℕ)
output_after_ranges first request cpu = first_ranges first ++ (if request.count == 0 then [] else word_ranges (save_writes cpu))
