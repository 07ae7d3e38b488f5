use Rattle.std.proofs.Common.{◌≡◌}
use Rattle.crossbeam_queue.specs.Passes.{view, IsSamePass, ruled_capacity}
use Rattle.tp_ready.specs.View.{maker}
use Rattle.tp_ready.proofs.queue.reckon.Given as goal

-- as many hands were made as the loop made rounds
abbrev pub invariant-loop : goal.invariant-loop
invariant-loop l = IsSamePass l.fn.port l.port × (view l.port ≡ maker (ruled_capacity l.fn.line) l.counter)
