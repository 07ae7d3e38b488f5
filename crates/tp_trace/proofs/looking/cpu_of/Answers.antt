use Rattle.std.proofs.Common.{◌≡◌, ◌∙◌, ap}
use Rattle.tp_model.specs.Image.{cpu_at, image_head}
use Rattle.tp_trace.proofs.Heads.{head_spells}
use Rattle.tp_trace.proofs.looking.cpu_of.Goals as goal

pub returns : goal.returns
returns c =
    let node = c.args.node.now.live in
    let head : c.frozen_head.new.out ≡ image_head node = rw c.requires.frozen at c.frozen_head.ensures in
    c.cpu_in.ensures ∙ ap cpu_at head ∙ head_spells node c.requires.bytes.image
