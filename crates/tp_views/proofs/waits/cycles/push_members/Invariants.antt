use Rattle.std.proofs.Common.{◌≡◌, ◌++◌, string_bytes, drop}
use Rattle.tp_views.specs.Cycles.{members}
use Rattle.tp_views.proofs.waits.cycles.push_members.Given as goal

abbrev pub invariant-loop-other : goal.invariant-loop-other
invariant-loop-other l =
    string_bytes l.text ++ members l.fn.mine l.fn.number l.other (drop l.other l.rows) ≡ string_bytes l.fn.text ++ members l.fn.mine l.fn.number 0 l.rows
