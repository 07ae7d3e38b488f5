use Rattle.std.proofs.Common.{◌≡◌, true, false, refl, rules}
use Rattle.std.specs.Prelude.{Err}
use Rattle.tp_turn.proofs.Lower.{node_at, node_of, has_idle_links, ReadsImage, image_read, image_thawed}
use Rattle.tp_node.specs.declared.fault.ImageFault.TheVariants.{Memory}
use Rattle.tp_turn.proofs.Begun.{fresh_some, fresh_none, reads_memory}
use Rattle.tp_turn.proofs.image.lone_node.Goals as goal

pub returns-then-not-has_idle_links : goal.returns-then-not-has_idle_links
returns-then-not-has_idle_links c =
    let no : has_idle_links (node_at c.args.image.now) ≡ false = search rules in
    fresh_none c.args.image.now no

pub returns-in-Ok : goal.returns-in-Ok
returns-in-Ok c =
    let yes : has_idle_links (node_at c.args.image.now) ≡ true = search rules in
    let read = image_read (node_of c.args.image.now) c.in-Ok.node c.in-Ok.ensures.reads in
    (fresh_some c.args.image.now c.in-Ok.node.live read yes, image_thawed (node_of c.args.image.now) c.in-Ok.node c.in-Ok.ensures.reads)

pub returns-in-Err-Memory : goal.returns-in-Err-Memory
returns-in-Err-Memory c =
    let yes : has_idle_links (node_at c.args.image.now) ≡ true = search rules in
    let read : ReadsImage (node_of c.args.image.now) (Err Memory) = rw c.in-Err-Memory.field-0-is at c.in-Err-Memory.ensures.reads in
    reads_memory c.args.image.now (node_of c.args.image.now) refl read yes
