use Rattle.std.proofs.Common.{length, rules, Err, sym, subst, ◌≡◌, ◌≤◌}
use Rattle.std.specs.Prelude.{IfOk}
use Rattle.tp_stream.proofs.Lower.{AreTrue, Began, Flushing, IsSameProcess, Walked}
use Rattle.tp_stream.specs.Accounted.{AreAllSlips}
use Rattle.tp_stream.specs.Failures.{FailedWhere, answer_failed}
use Rattle.tp_stream.specs.Put.{EndsPut}
use Rattle.tp_stream.proofs.Failures.{failed_still}
use Rattle.tp_stream.proofs.flushing.finish.Goals as goal

pub returns-clause-premise : goal.returns-clause-premise
returns-clause-premise g c k = c.flush.ensures.premise (subst (λ (f : Flushing). AreTrue f.reads) c.last_of.ensures.same.0 k)

pub returns-clause-walks : goal.returns-clause-walks
returns-clause-walks g c k began =
    let was = subst (λ (f : Flushing). AreTrue f.reads) c.last_of.ensures.same.0 k in
    subst (λ (f : Flushing). Walked c.args.flusher.now f) (sym c.last_of.ensures.same.0) (c.flush.ensures.walks was began)

pub returns-clause-process : goal.returns-clause-process
returns-clause-process g c = subst (λ (f : Flushing). IsSameProcess c.args.flusher.now f) (sym c.last_of.ensures.same.0) c.flush.ensures.process

pub returns-clause-stored : goal.returns-clause-stored
returns-clause-stored g c = subst (λ (f : Flushing). IfOk c.last_of.result (λ next. next ≤ f.world.mark)) (sym c.last_of.ensures.same.0) c.last_of.ensures.stored

pub returns-clause-last : goal.returns-clause-last
returns-clause-last g c k began =
    subst (λ (f : Flushing). IfOk c.last_of.result (λ next. next ≡ length f.world.journal)) (sym c.last_of.ensures.same.0)
    (c.last_of.ensures.last k (subst (Began g.J.Naming.formatted g.J.Naming.before) (sym c.flush.ensures.process.opened) began))

pub returns-clause-failures : goal.returns-clause-failures
returns-clause-failures g c rests =
    failed_still _ c.args.flusher.now c.flush.new.flusher c.last_of.new.flusher c.last_of.ensures.same.0 c.last_of.ensures.unfailed (c.in_ok-_mark.ensures.failures rests)

pub returns-in_err-_mark-clause-failures : goal.returns-in_err-_mark-clause-failures
returns-in_err-_mark-clause-failures g c rests =
    let is : c.from_residual.result ≡ Err c.in_err-_mark.field-0.0 = search rules in
    subst (λ r. FailedWhere (answer_failed r) c.args.flusher.now c.flush.new.flusher) (sym is) (c.in_err-_mark.ensures.failures rests)

pub returns-clause-put : goal.returns-clause-put
returns-clause-put g c k began =
    subst (λ (f : Flushing). IfOk c.last_of.result (λ next. EndsPut g.J.Naming.formatted f.world.journal c.args.why c.args.outputs.now)) (sym c.last_of.ensures.same.0)
    (c.last_of.ensures.put k (subst (Began g.J.Naming.formatted g.J.Naming.before) (sym c.flush.ensures.process.opened) began))

pub returns-clause-all : goal.returns-clause-all
returns-clause-all g c k began =
    subst (λ (f : Flushing). IfOk c.last_of.result (λ next. AreAllSlips g.J.Naming.first next f.world.journal c.args.all.now c.args.host.now)) (sym c.last_of.ensures.same.0)
    (c.last_of.ensures.all k (subst (Began g.J.Naming.formatted g.J.Naming.before) (sym c.flush.ensures.process.opened) began))
