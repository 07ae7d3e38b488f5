use Rattle.std.proofs.Common.{◌≡◌, ◌∙◌, ◌*◌, ℕ, List, ◌++◌, length, length-append, ap, arith}
use Rattle.tp_recover.proofs.Lower.{or_damaged, IMAGE_HEAD_BYTES, node_of, image_length, image_read, are_bytes, are_bytes-append}
use Rattle.tp_recover.proofs.ReadParts.{node_imaged}
use Rattle.tp_recover.proofs.Nodes.{node_with-whole}
use Rattle.tp_recover.proofs.area.node.node_in.Goals as goal

-- the image is whole
is_whole : (head memory : List ℕ) (pages : ℕ) → length head ≡ IMAGE_HEAD_BYTES → length memory ≡ 1024 * pages → length (head ++ memory) ≡ image_length pages
is_whole head memory pages front rest = omega (arith, length-append head memory)

pub returns-in-Ok-clause-is : goal.returns-in-Ok-clause-is
returns-in-Ok-clause-is c =
    let bytes = c.args.head.now ++ c.args.memory.items in
    ap (or_damaged c.args.at) (node_with-whole c.args.pages bytes (is_whole c.args.head.now c.args.memory.items c.args.pages (omega arith) c.requires.whole) ∙ image_read (node_of bytes) c.in-Ok.node c.in-Ok.ensures.reads)

pub returns-in-Ok-clause-image : goal.returns-in-Ok-clause-image
returns-in-Ok-clause-image c =
    let bytes = c.args.head.now ++ c.args.memory.items in
    node_imaged c.args.pages bytes c.in-Ok.node.live (are_bytes-append c.args.head.now c.args.memory.items (are_bytes c.args.head.now c.fits-head) (are_bytes c.args.memory.items c.requires.bytes))
    (node_with-whole c.args.pages bytes (is_whole c.args.head.now c.args.memory.items c.args.pages (omega arith) c.requires.whole) ∙ image_read (node_of bytes) c.in-Ok.node c.in-Ok.ensures.reads)
