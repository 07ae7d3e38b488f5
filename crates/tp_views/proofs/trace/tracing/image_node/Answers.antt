use Rattle.std.proofs.Common.{◌≡◌, Option, Some, None, refl, Err}
use Rattle.std.specs.Prelude.{IsSome}
use Rattle.tp_views.proofs.Lower.{node_of, NodeState, image_read, image_thawed, ReadsImage}
use Rattle.tp_node.specs.declared.fault.ImageFault.TheVariants.{BadImage, Memory}
use Rattle.tp_views.proofs.trace.tracing.image_node.Goals as goal

-- no image
unread : (o : Option NodeState) → ReadsImage o (Err BadImage) → o ≡ None
unread None read = refl
unread (Some node) read = absurd read

-- memory runs out for one that exists
wanting : (o : Option NodeState) → ReadsImage o (Err Memory) → IsSome o
wanting None read = absurd read
wanting (Some node) read = refl

pub returns-in-Ok : goal.returns-in-Ok
returns-in-Ok c = (image_read (node_of c.args.image.now) c.in-Ok.node c.in-Ok.ensures.reads, image_thawed (node_of c.args.image.now) c.in-Ok.node c.in-Ok.ensures.reads)

pub returns-in-Err-BadImage : goal.returns-in-Err-BadImage
returns-in-Err-BadImage c = unread (node_of c.args.image.now) (rw c.in-Err-BadImage.field-0-is at c.in-Err-BadImage.ensures.reads)

pub returns-in-Err-Memory : goal.returns-in-Err-Memory
returns-in-Err-Memory c = wanting (node_of c.args.image.now) (rw c.in-Err-Memory.field-0-is at c.in-Err-Memory.ensures.reads)
