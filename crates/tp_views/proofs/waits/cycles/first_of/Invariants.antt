use Rattle.std.proofs.Common.{◌≡◌, drop}
use Rattle.tp_views.specs.Cycles.{first_of}
use Rattle.tp_views.proofs.waits.cycles.first_of.Given as goal

abbrev pub invariant-loop-other : goal.invariant-loop-other
invariant-loop-other l = first_of l.fn.mine l.fn.number l.other (drop l.other l.rows) ≡ first_of l.fn.mine l.fn.number 0 l.rows
