use Rattle.std.proofs.Common.{◌≡◌, take, map}
use Rattle.tp_views.specs.Cycles.{passed}
use Rattle.tp_views.proofs.waits.cycles.leads.Given as goal

abbrev pub invariant-loop-row : goal.invariant-loop-row
invariant-loop-row l = l.next.items ≡ map (passed l.fn.node l.through) (take l.row-index l.rows)
