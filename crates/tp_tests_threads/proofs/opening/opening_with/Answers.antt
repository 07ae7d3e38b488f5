use Rattle.std.proofs.Common.{◌∙◌, sym, Some}
use Rattle.tp_tests_threads.specs.Lower.{is_roomy, room}
use Rattle.tp_tests_threads.proofs.opening.opening_with.Goals as goal

pub invariant_of-result-clause-allowed : goal.invariant_of-result-clause-allowed
invariant_of-result-clause-allowed g c = c.requires

pub invariant_of-result-clause-bound : goal.invariant_of-result-clause-bound
invariant_of-result-clause-bound g c =
    c.in-Ok.ensures.bound ∙ (λ i. Some (room (sym c.of-known.ensures i).head.topology (sym c.of-known.ensures i).head.areas.length))

pub invariant_of-result-clause-roomy : goal.invariant_of-result-clause-roomy
invariant_of-result-clause-roomy g c =
    (λ i. is_roomy (c.of-known.ensures i).head.topology (c.of-known.ensures i).head.areas.length)
    ∙ (λ i. is_roomy (sym c.head.ensures i).topology (sym c.head.ensures i).areas.length)
    ∙ c.areas-areas.ensures.roomy
