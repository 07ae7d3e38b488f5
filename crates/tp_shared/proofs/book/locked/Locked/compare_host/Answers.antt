use Rattle.std.proofs.Common.{◌∙◌, ◌+◌, length, ap, sym, subst}
use Rattle.tp_shared.specs.Accepted.{HaveAccepted}
use Rattle.tp_shared.specs.BytesIn.{bytes_in}
use Rattle.tp_shared.specs.HandedIn.{handed}
use Rattle.tp_shared.specs.Seals.{Stage}
use Rattle.tp_shared.specs.declared.flusher.handed.Handed.{Handed}
use Rattle.tp_shared.proofs.BytesIn.{bytes_in-handed}
use Rattle.tp_shared.proofs.Keeping.{given_same}
use Rattle.tp_shared.proofs.book.locked.Locked.compare_host.Goals as goal

pub invariant_of-self : goal.invariant_of-self
invariant_of-self g c = given_same c.self.invariant c.agree.ensures.names.0 c.agree.ensures.values.0

pub returns-clause-all : goal.returns-clause-all
returns-clause-all g c =
    ap (λ (s : Stage). handed s.all) (sym c.self.view_is) ∙ sym c.self.invariant.given_is ∙ ap (λ (x : Handed). x.entries) c.agree.ensures.agreed ∙ c.host.view_is

pub returns-clause-accepted : goal.returns-clause-accepted
returns-clause-accepted g c p below =
    subst (λ (s : Stage). HaveAccepted g.J.Naming.accepted s.all s.book) c.self.view_is c.self.invariant.fed p below
    ∙ ap (λ bytes. g.J.Naming.accepted p + length bytes) (sym (bytes_in-handed p c.args.self.now.all) ∙ ap (bytes_in p) (returns-clause-all g c))
