use Rattle.std.proofs.Common.{◌++◌, ap, ◌∙◌, arith}
use Rattle.tp_model.specs.Image.{image_head, image}
use Rattle.tp_replay.proofs.Pages.{page_more, page_last}
use Rattle.tp_replay.proofs.image.put_frozen.Goals as goal

pub loop-i-preserved : goal.loop-i-preserved
loop-i-preserved c = λ kept is.
    let page = rw is at c.frozen_page.ensures in
    page_more (image_head kept) kept.memory c.loop-i.i c.args.bytes.now.items c.loop-i.bytes.items _ _ (c.loop-i.invariant kept is) page c.in_ok-extend_from_slice-2.ensures.items

pub returns : goal.returns
unfolding image
returns c = λ kept is.
    let long = rw is at c.pages-i-end.ensures.frozen in
    c.loop-i.invariant kept is ∙ ap (λ bytes. c.args.bytes.now.items ++ (image_head kept ++ bytes)) (page_last kept.memory c.loop-i.i (omega arith))
