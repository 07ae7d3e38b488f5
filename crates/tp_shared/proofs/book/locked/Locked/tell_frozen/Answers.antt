use Rattle.std.proofs.Common.{◌∙◌, ap, slice_get, sym, subst}
use Rattle.tp_shared.proofs.Lower.{IsFrozenAs, world_of}
use Rattle.tp_shared.specs.Frozen.{keeps_pages}
use Rattle.tp_shared.specs.Seals.{Stage}
use Rattle.tp_shared.specs.declared.flusher.told.Told.{Told}
use Rattle.tp_shared.proofs.book.locked.Locked.tell_frozen.Goals as goal

pub returns-clause-kept : goal.returns-clause-kept
returns-clause-kept g c =
    ap (λ (t : Told). keeps_pages t.frozen c.args.number) c.tell.ensures.key.1 ∙ ap (λ (stage : Stage). keeps_pages stage.frozen c.args.number) c.audit_frozen.ensures.same ∙ c.audit_frozen.ensures.kept

pub returns-clause-there : goal.returns-clause-there
returns-clause-there g c =
    ap (λ (t : Told). slice_get t.net.live.nodes c.args.number) c.tell.ensures.key.1
    ∙ ap (λ (stage : Stage). slice_get (world_of stage.book).live.nodes c.args.number) c.audit_frozen.ensures.same
    ∙ c.audit_frozen.ensures.there

pub returns-clause-frozen : goal.returns-clause-frozen
returns-clause-frozen g c node frozen =
    subst (λ (t : Told). IsFrozenAs t.net c.args.number node) (sym c.tell.ensures.key.1)
    (subst (λ (stage : Stage). IsFrozenAs (world_of stage.book) c.args.number node) (sym c.audit_frozen.ensures.same) (c.audit_frozen.ensures.frozen node frozen))
