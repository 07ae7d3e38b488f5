use Rattle.std.proofs.Common.{true, sym, ap, ◌∙◌}
use Rattle.tp_shared.specs.Seals.{Stage}
use Rattle.tp_shared.specs.declared.flusher.told.Told.{Told}
use Rattle.tp_shared.proofs.Keeping.{broken_told}
use Rattle.tp_shared.proofs.book.locked.Locked.break_store.Goals as goal

pub invariant_of-self : goal.invariant_of-self
invariant_of-self g c =
    broken_told c.self.invariant c.break_store.ensures c.turn.ensures.names.0
    (c.turn.ensures.seal ∙ c.broken-now.ensures ∙ ap (λ (t : Told). record t { broken = true }) (sym c.turn.ensures.agreed))

pub returns-clause-was : goal.returns-clause-was
returns-clause-was g c =
    ap (λ (t : Told). t.broken) (sym c.turn.ensures.agreed) ∙ sym c.self.invariant.since.broken ∙ ap (λ (s : Stage). s.book.broken) c.self.view_is
