use Rattle.std.proofs.Common.{◌≡◌, ◌++◌, drop}
use Rattle.tp_views.specs.Cycles.{rows_in}
use Rattle.tp_views.specs.Scene.{seen_in}
use Rattle.tp_views.proofs.waits.cycles.rows_of.Given as goal

abbrev pub invariant-loop-number : goal.invariant-loop-number
invariant-loop-number l =
    l.rows.items ++ rows_in (seen_in l.fn.scene) l.number (drop l.number l.fn.scene.nodes.items) ≡ rows_in (seen_in l.fn.scene) 0 l.fn.scene.nodes.items
