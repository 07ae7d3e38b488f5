use Rattle.std.proofs.Common.{◌≡◌, ◌∙◌, sym, ap, subst}
use Rattle.std.specs.Prelude.{◌&&◌, IfOk, is_some}
use Rattle.tp_flush.proofs.Lower.{whole, BookValue, world_of, none_kept, Told}
use Rattle.tp_flush.proofs.Reasons.{some_copied}
use Rattle.tp_flush.proofs.steps.switching.tail_of.Goals as goal

pub returns-clause-cut : goal.returns-clause-cut
returns-clause-cut g c =
    c.is_some.ensures ∙ some_copied c.whole.result ∙ ap is_some c.whole.ensures.value ∙ ap (λ (b : BookValue). is_some (whole (world_of b))) c.book.ensures
    ∙ sym (ap (λ (t : Told). is_some (whole t.net)) c.copy_tail.ensures.key)

pub returns-clause-found : goal.returns-clause-found
returns-clause-found g c =
    subst (λ (t : Told). IfOk c.copy_tail.result (λ found. is_some found ≡ (none_kept t.frozen && is_some (whole t.net)))) (sym c.copy_tail.ensures.key) c.copy_tail.ensures.found
