use Rattle.std.proofs.Common.{◌∙◌, ap}
use Rattle.tp_shared.specs.Frozen.{keeps_pages}
use Rattle.tp_shared.specs.Seals.{Stage}
use Rattle.tp_shared.specs.declared.flusher.told.Told.{Told}
use Rattle.tp_shared.proofs.Gone.{gone_here}
use Rattle.tp_shared.proofs.book.locked.Locked.thaw_told.Goals as goal

pub returns-clause-gone : goal.returns-clause-gone
returns-clause-gone g c =
    ap (λ (t : Told). keeps_pages t.frozen c.args.number) c.tell.ensures.key.1 ∙ ap (λ (stage : Stage). keeps_pages stage.frozen c.args.number) c.thaw.ensures.gone ∙ gone_here _ c.args.number
