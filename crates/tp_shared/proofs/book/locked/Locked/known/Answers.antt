use Rattle.std.proofs.Common.{◌≡◌, ◌∙◌, ℕ, true, length, sym, ap, subst, arith}
use Rattle.tp_book.specs.Needs.{has_recorded_in}
use Rattle.tp_shared.specs.Frozen.{keeps_pages}
use Rattle.tp_shared.specs.Positions.{IsNumberedFrom}
use Rattle.tp_shared.specs.Seals.{Stage, IsTied}
use Rattle.tp_shared.proofs.Gone.{kept_there}
use Rattle.tp_shared.proofs.book.locked.Locked.known.Goals as goal

pub returns-clause-tied : goal.returns-clause-tied
returns-clause-tied g c = subst (λ stage. IsTied g.J.Naming.first stage.all stage.book) c.self.view_is c.self.invariant.tied

pub returns-clause-numbered : goal.returns-clause-numbered
returns-clause-numbered g c = subst (λ (stage : Stage). IsNumberedFrom stage.numbered_from stage.book) c.self.view_is c.self.invariant.numbered

pub returns-clause-frozen : goal.returns-clause-frozen
returns-clause-frozen g c =
    subst (λ (stage : Stage). (i : ℕ) → keeps_pages stage.frozen i ≡ true → has_recorded_in stage.book.state.snapshot i ≡ true) c.self.view_is
    (λ i kept.
    let K = kept_there c.self.inside.seals.items i kept in
    let S = c.self.invariant.sealed i K.0 K.1 in
    S.recorded (sym S.flag ∙ K.2))

pub returns-clause-nodes : goal.returns-clause-nodes
returns-clause-nodes g c = subst (λ stage. length stage.book.state.start.nodes ≡ length g.J.Naming.start.nodes) c.self.view_is c.self.invariant.count_is

pub returns-clause-ports : goal.returns-clause-ports
returns-clause-ports g c =
    let wires = c.known.ensures.shaped.wires in
    let same = ap length c.self.invariant.wires_are in
    let runs = c.self.invariant.run_count in
    let all = c.self.invariant.wire_count in
    subst (λ stage. length stage.book.state.ports ≡ length g.J.Naming.start.ports) c.self.view_is (omega (arith, wires, same, runs, all))
