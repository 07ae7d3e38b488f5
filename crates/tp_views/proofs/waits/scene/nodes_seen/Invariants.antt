use Rattle.std.proofs.Common.{◌≡◌, take, map}
use Rattle.tp_views.specs.Scene.{node_seen}
use Rattle.tp_views.proofs.waits.scene.nodes_seen.Given as goal

abbrev pub invariant-loop-node : goal.invariant-loop-node
invariant-loop-node l = l.seen.items ≡ map (λ node. node_seen node.live) (take l.node-index l.nodes)
