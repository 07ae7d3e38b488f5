use Rattle.std.proofs.Common.{◌∙◌, arith}
use Rattle.tp_area.proofs.FreshImages.{links_at, other_links, fresh_image}
use Rattle.tp_area.proofs.encoding.images.check_image.Goals as goal

pub returns-then-not-has_idle_links : goal.returns-then-not-has_idle_links
returns-then-not-has_idle_links c =
    other_links c.args.pages c.pages-count.result c.args.image.now c.in-Ok.node c.has_idle_links.result c.in-Ok.ensures.reads c.pages-count.ensures.live (omega arith)
    (c.has_idle_links.ensures ∙ links_at c.args.image.now) c.if-not-has_idle_links.true

pub returns : goal.returns
returns c =
    fresh_image c.args.pages c.pages-count.result c.args.image.now c.in-Ok.node c.has_idle_links.result c.in-Ok.ensures.reads c.pages-count.ensures.live (omega arith)
    (c.has_idle_links.ensures ∙ links_at c.args.image.now) c.if-not-has_idle_links.false
