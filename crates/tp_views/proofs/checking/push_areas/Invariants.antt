use Rattle.std.proofs.Common.{◌≡◌, ◌++◌, string_bytes, drop}
use Rattle.tp_views.specs.Checked.{areas_text}
use Rattle.tp_views.proofs.checking.push_areas.Given as goal

abbrev pub invariant-loop-before : goal.invariant-loop-before
invariant-loop-before l =
    string_bytes l.text ++ areas_text l.json l.topology l.before (drop l.before l.journals) ≡ string_bytes l.fn.text ++ areas_text l.fn.json l.fn.topology 0 l.fn.journals
