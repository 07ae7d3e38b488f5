use Rattle.std.proofs.Common.{◌≡◌, drop}
use Rattle.tp_views.specs.Scene.{seen_in}
use Rattle.tp_views.specs.Waiting.{waits_inside}
use Rattle.tp_views.proofs.waits.waiting.waits_inside.Given as goal

abbrev pub invariant-loop-node : goal.invariant-loop-node
invariant-loop-node l =
    waits_inside (seen_in l.fn.scene) l.node (drop l.node l.fn.scene.nodes.items) ≡ waits_inside (seen_in l.fn.scene) 0 l.fn.scene.nodes.items
