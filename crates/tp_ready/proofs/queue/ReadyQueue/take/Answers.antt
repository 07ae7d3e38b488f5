use Rattle.std.proofs.Common.{[], IfSome, sym, ◌∙◌, subst}
use Rattle.tp_ready.specs.Holding.{HoldsNumbers}
use Rattle.tp_ready.proofs.Dealing.{takes, few}
use Rattle.tp_ready.proofs.queue.ReadyQueue.take.Goals as goal

pub pop_as-requires-clause-rule : goal.pop_as-requires-clause-rule
pop_as-requires-clause-rule g c =
    let free : HoldsNumbers [] c.in-Some.port = subst (λ port. IfSome port (HoldsNumbers [])) (sym c.take.ensures.value ∙ c.in-Some.is) c.hand.invariant in
    (takes _ _ free.0 free.1 free.3, few _ _ free.0)
