use Rattle.std.proofs.Common.{[], length, ◌≤◌, sym, subst}
use Rattle.tp_run.proofs.Lower.{World, NodeState, Flushing, Entry, AreAll, Began}
use Rattle.tp_run.specs.Compacted.{AddsNone}
use Rattle.tp_run.proofs.Compacts.{none_from}
use Rattle.tp_run.proofs.Premise.{same_premise}
use Rattle.tp_run.proofs.compacting.adds_none.Goals as goal

pub returns-clause-none : goal.returns-clause-none
returns-clause-none g c is k began =
    let began_then = subst (λ (f : Flushing). Began g.J.Naming.formatted g.J.Naming.before f.opened) (sym c.settle_book.ensures.same.0) began in
    let all = c.settle_all.ensures.all is k began_then in
    let fewer = none_from c.requires.empty all in
    let ahead = c.settle_book.ensures.ahead (same_premise c.settle_all.ensures.same.0 k) began in
    (subst (λ (f : Flushing). length f.world.journal ≤ g.J.Naming.first) c.settle_book.ensures.same.0 fewer, ahead.marked)
