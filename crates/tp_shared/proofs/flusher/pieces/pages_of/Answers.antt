use Rattle.std.proofs.Common.{◌∙◌, sym, ap}
use Rattle.tp_shared.proofs.Frozen.{pages_frozen}
use Rattle.tp_shared.proofs.flusher.pieces.pages_of.Goals as goal

pub returns-clause-pages : goal.returns-clause-pages
returns-clause-pages g c =
    pages_frozen c.audit.new.place.node.frozen c.audit.new.key.value.net c.args.number c.args.first c.copy_pages.result c.copy_pages.new.out (sym c.is_frozen.ensures ∙ c.if-not-is_frozen.false)
    c.copy_pages.ensures.pages (λ node e. c.audit.ensures.frozen node (sym (ap (λ n. n.frozen) c.audit.ensures.node) ∙ e))
