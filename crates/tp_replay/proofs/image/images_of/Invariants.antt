-- The images so far are those of the first nodes, and the nodes are as they were.
use Rattle.std.proofs.Common.{◌≡◌, map, take}
use Rattle.tp_model.specs.Image.{image}
use Rattle.tp_replay.proofs.image.images_of.Given as goal

abbrev pub invariant-loop-i : goal.invariant-loop-i
invariant-loop-i l =
    (map (λ bytes. bytes.items) l.images.items ≡ map (λ node. image node.live) (take l.i l.fn.nodes.items)) × (l.nodes.items ≡ l.fn.nodes.items)
