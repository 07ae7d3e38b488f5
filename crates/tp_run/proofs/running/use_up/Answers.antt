use Rattle.std.proofs.Common.{◌≤◌, drop, refl, sym, ap, subst, ◌∙◌}
use Rattle.std.specs.Prelude.{IfOk}
use Rattle.tp_run.proofs.Lower.{handed, Began, Flushing, HasFront, IsSameProcess, Walked}
use Rattle.tp_run.specs.HandedOver.{HandedOver}
use Rattle.tp_run.specs.Input.{input_slips}
use Rattle.tp_run.specs.Ran.{Settled}
use Rattle.tp_run.specs.Rested.{LeadsToRest}
use Rattle.tp_run.specs.Shown.{MayPrint}
use Rattle.tp_run.proofs.Premise.{same_premise}
use Rattle.tp_run.proofs.running.use_up.Goals as goal

pub returns-clause-premise : goal.returns-clause-premise
returns-clause-premise g c k = c.serve-flusher.ensures.premise (same_premise (c.settle_host_under.ensures.same.0) k)

pub returns-clause-walks : goal.returns-clause-walks
returns-clause-walks g c k began =
    subst (λ (f : Flushing). Walked c.args.flusher f) (sym (c.settle_host_under.ensures.same.0)) (c.serve-flusher.ensures.walks (same_premise (c.settle_host_under.ensures.same.0) k) began)

pub returns-clause-process : goal.returns-clause-process
returns-clause-process g c = subst (λ (f : Flushing). IsSameProcess c.args.flusher f) (sym (c.settle_host_under.ensures.same.0)) c.serve-flusher.ensures.process

pub returns-clause-stored : goal.returns-clause-stored
returns-clause-stored g c =
    subst (λ (f : Flushing). IfOk c.serve-flusher.result.1 (λ next. next ≤ f.world.mark)) (sym (c.settle_host_under.ensures.same.0)) c.serve-flusher.ensures.stored

pub returns-clause-settled : goal.returns-clause-settled
returns-clause-settled g c k began =
    subst (λ (f : Flushing). IfOk c.serve-flusher.result.1 (Settled g.J.Naming.formatted g.J.Naming.start c.args.job c.args.outset (input_slips c.args.outset c.args.input.now) (g.O.Outlet.value c.args.out.now).taken (g.O.Outlet.value c.serve-flusher.new.out).taken f.world.journal))
    (sym (c.settle_host_under.ensures.same.0)) (c.serve-flusher.ensures.settled (same_premise (c.settle_host_under.ensures.same.0) k) began)

pub returns-clause-shown : goal.returns-clause-shown
returns-clause-shown g c k began =
    subst (λ (f : Flushing). MayPrint g.J.Naming.formatted c.args.flusher f c.args.outset.port c.args.outset.confirmed (g.O.Outlet.value c.args.out.now) (g.O.Outlet.value c.serve-flusher.new.out) c.serve-flusher.result.1)
    (sym (c.settle_host_under.ensures.same.0)) (c.serve-flusher.ensures.shown (same_premise (c.settle_host_under.ensures.same.0) k) began)

-- what the host handed in
pub returns-clause-handed : goal.returns-clause-handed
returns-clause-handed g c k began =
    let there = subst (Began g.J.Naming.formatted g.J.Naming.before) (sym c.serve-flusher.ensures.process.opened) began in
    let journal = c.serve-flusher.result.0.world.journal in
    subst (λ (f : Flushing). HandedOver g.J.Naming.formatted f.world.journal c.args.outset c.args.input.now (g.O.Outlet.value c.args.out.now).taken (g.O.Outlet.value c.serve-flusher.new.out).taken)
    (sym (c.settle_host_under.ensures.same.0)) (record {
      entries = c.serve-flusher.new.key;
      hands = c.serve-flusher.ensures.handed (same_premise c.settle_host_under.ensures.same.0 k) began;
      front = subst (λ n. HasFront c.serve-flusher.new.key (handed (drop n journal))) (sym c.requires.first) (c.settle_host_under.ensures.handed k there);
    })

pub returns-clause-rest : goal.returns-clause-rest
returns-clause-rest g c k began =
    subst (λ (f : Flushing). IfOk c.serve-flusher.result.1 (λ next. LeadsToRest g.J.Naming.formatted f.world.journal next c.serve-flusher.new.rest)) (sym c.settle_host_under.ensures.same.0)
    (c.serve-flusher.ensures.rest (same_premise c.settle_host_under.ensures.same.0 k) began)

pub returns-clause-failures : goal.returns-clause-failures
returns-clause-failures g c = ap (λ (f : Flushing). f.failures) (c.settle_host_under.ensures.same.0) ∙ c.serve-flusher.ensures.failures
