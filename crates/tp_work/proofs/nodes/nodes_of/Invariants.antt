use Rattle.std.proofs.Common.{map}
use Rattle.tp_work.proofs.Lower.{AllZip, node_at}
use Rattle.tp_work.specs.Nodes.{IsMade}
use Rattle.tp_work.proofs.nodes.nodes_of.Given as goal

abbrev pub invariant-loop-image : goal.invariant-loop-image
invariant-loop-image l = AllZip (IsMade l.spare) (map (λ image. node_at image.items) l.yielded) l.nodes.items
