use Rattle.std.proofs.Common.{refl, length, ap}
use Rattle.tp_shared.proofs.Hosting.{idle_begun, begun_agreed, begun_grown}
use Rattle.tp_shared.proofs.Sealing.{sealed_begun}
use Rattle.tp_shared.proofs.Keeping.{acted_still}
use Rattle.tp_shared.proofs.book.locked.Locked.begin_snapshot.Goals as goal

pub invariant_of-self : goal.invariant_of-self
invariant_of-self g c = rw c.in_err-begin.ensures.err c.self.invariant

pub invariant_of-self-2 : goal.invariant_of-self-2
invariant_of-self-2 g c =
    let b = c.self.inside.book in
    let new = c.begin.new.self in
    let inv = c.self.invariant in
    let is = c.in_ok-begin.ensures.ok in
    let G = begun_grown b new is c.in_ok-begin.ensures.act in
    let runs = ap (λ x. x.runs) is in
    acted_still inv G (ap length runs) refl
    (sealed_begun g.J.Naming.node c.self.inside.seals.items b new inv.sealed (idle_begun b c.in_ok-begin.ensures.answer) (begun_agreed b new is) runs (ap (λ x. x.form) is) c.in_ok-begin.ensures.act)
    inv.thawed (λ i n F none. none)
