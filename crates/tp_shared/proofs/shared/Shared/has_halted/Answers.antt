use Rattle.std.proofs.Common.{sym, subst, ◌∙◌}
use Rattle.tp_shared.specs.Resting.{IsRestAt}
use Rattle.tp_shared.specs.Seals.{Stage}
use Rattle.tp_shared.proofs.shared.Shared.has_halted.Goals as goal

pub returns-in-Halted-clause-halted : goal.returns-in-Halted-clause-halted
returns-in-Halted-clause-halted g c told =
    let here = subst (λ (s : Stage). IsRestAt s.book c.loop-number.number c.rest_at.result) c.loop-number.invariant c.rest_at.ensures.rest in
    record { number = c.loop-number.number; node = here.node; there = here.there; is = sym here.is ∙ c.in-Halted.is }
