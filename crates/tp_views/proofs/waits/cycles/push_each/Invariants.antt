use Rattle.std.proofs.Common.{◌≡◌, ◌++◌, string_bytes, drop}
use Rattle.tp_views.specs.Cycles.{cycles_from}
use Rattle.tp_views.proofs.waits.cycles.push_each.Given as goal

abbrev pub invariant-loop-number : goal.invariant-loop-number
invariant-loop-number l =
    string_bytes l.text ++ cycles_from l.fn.rows l.number (drop l.number l.rows) ≡ string_bytes l.fn.text ++ cycles_from l.fn.rows 0 l.fn.rows
