use Rattle.std.proofs.Common.{◌≡◌, ◌++◌, ◌-◌, ◌*◌, length, string_bytes}
use Rattle.std.specs.Prelude.{◌/◌}
use Rattle.tp_views.specs.Stops.{words_text}
use Rattle.tp_views.proofs.trace.stops.push_words.Given as goal

-- the words so far were appended
abbrev pub invariant-loop-index : goal.invariant-loop-index
invariant-loop-index l =
    string_bytes l.text ++ words_text l.bytes (length l.bytes / 4 - l.index) (4 * l.index) ≡ string_bytes l.fn.text ++ words_text l.bytes (length l.bytes / 4) 0
