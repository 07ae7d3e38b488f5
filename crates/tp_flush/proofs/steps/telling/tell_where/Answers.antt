use Rattle.std.proofs.Common.{sym, ap, ◌∙◌}
use Rattle.tp_shared.specs.declared.flusher.told.Told.{Told}
use Rattle.tp_flush.proofs.steps.telling.tell_where.Goals as goal

pub returns-else-failed-clause-key : goal.returns-else-failed-clause-key
returns-else-failed-clause-key g c =
    let told : Told = c.args.key.now.value in
    ap (λ broken. record told { broken = broken }) (c.requires.whole ∙ sym c.if-failed.false)
