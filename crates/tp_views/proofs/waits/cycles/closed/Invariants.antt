use Rattle.std.proofs.Common.{◌≡◌}
use Rattle.tp_views.specs.Cycles.{closed}
use Rattle.tp_views.proofs.waits.cycles.closed.Given as goal

abbrev pub invariant-loop-node : goal.invariant-loop-node
invariant-loop-node l = l.now.items ≡ closed l.node l.fn.rows.items
