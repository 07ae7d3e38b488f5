use Rattle.std.proofs.Common.{◌≡◌}
use Rattle.crossbeam_queue.specs.Passes.{view, IsSamePass}
use Rattle.tp_ready.specs.View.{maker}
use Rattle.tp_ready.proofs.queue.fill.Given as goal

-- the numbers below this one were made
abbrev pub invariant-loop-number : goal.invariant-loop-number
invariant-loop-number g l = IsSamePass l.fn.port l.port × (view l.port ≡ maker l.number 0)
