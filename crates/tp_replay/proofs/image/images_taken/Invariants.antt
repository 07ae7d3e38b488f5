-- The images so far are those of the nodes that have gone.
use Rattle.std.proofs.Common.{◌≡◌, map}
use Rattle.tp_model.specs.Image.{image}
use Rattle.tp_replay.proofs.image.images_taken.Given as goal

abbrev pub invariant-loop-node : goal.invariant-loop-node
invariant-loop-node l = map (λ bytes. bytes.items) l.images.items ≡ map (λ node. image node.live) l.yielded
