use Rattle.std.proofs.Common.{sym, subst, ap, ◌∙◌}
use Rattle.tp_run.proofs.Lower.{Began, Flushing, IsSameProcess, Walked, walked_nowhere, walked_then}
use Rattle.tp_run.specs.Failures.{CountsFailures}
use Rattle.tp_run.proofs.Failures.{failures_then, none_failed, turn_failures}
use Rattle.tp_run.proofs.Premise.{same_premise}
use Rattle.tp_run.proofs.flushing.flush_meanwhile.Goals as goal

pub loop-init : goal.loop-init
loop-init g c = record {
  process = record {
    opened = ap (λ (v : Flushing). v.opened) c.copy_at_most.ensures;
    size = ap (λ (v : Flushing). v.size) c.copy_at_most.ensures;
    topology = ap (λ (v : Flushing). v.topology) c.copy_at_most.ensures;
  };
  failures = subst (λ (v : Flushing). CountsFailures c.args.first v) (sym c.copy_at_most.ensures) (none_failed c.args.first);
  premise = same_premise c.copy_at_most.ensures;
  walks = λ k began.
      subst (λ (v : Flushing). Walked c.args.first v) (sym c.copy_at_most.ensures)
      (walked_nowhere c.args.first (c.known.ensures.disk (same_premise c.copy_at_most.ensures k)));
}

pub loop-preserved : goal.loop-preserved
loop-preserved g c =
    let P = c.loop.invariant.process in
    let Q = c.turn-done.ensures.process in
    record {
      process = record { opened = Q.opened ∙ P.opened; size = Q.size ∙ P.size; topology = Q.topology ∙ P.topology };
      failures =
          failures_then c.args.first c.loop.flusher c.turn-done.new.self c.loop.invariant.failures
          (turn_failures c.turn-done.result c.loop.flusher c.turn-done.new.self c.turn-done.ensures.ended);
      premise = λ k. c.loop.invariant.premise (c.turn-done.ensures.premise k);
      walks = λ k began.
          walked_then c.args.first c.loop.flusher c.turn-done.new.self (c.loop.invariant.walks (c.turn-done.ensures.premise k) began)
          (c.turn-done.ensures.walks k (subst (Began g.J.Naming.formatted g.J.Naming.before) (sym P.opened) began));
    }

pub returns-clause-premise : goal.returns-clause-premise
returns-clause-premise g c k = c.loop.invariant.premise (same_premise c.copy_at_most-2.ensures k)

pub returns-clause-walks : goal.returns-clause-walks
returns-clause-walks g c k began =
    subst (λ (v : Flushing). Walked c.args.first v) (sym c.copy_at_most-2.ensures)
    (c.loop.invariant.walks (same_premise c.copy_at_most-2.ensures k) began)

pub returns-clause-process : goal.returns-clause-process
returns-clause-process g c = subst (λ (v : Flushing). IsSameProcess c.args.first v) (sym c.copy_at_most-2.ensures) c.loop.invariant.process

pub returns-clause-failures : goal.returns-clause-failures
returns-clause-failures g c = subst (λ (v : Flushing). CountsFailures c.args.first v) (sym c.copy_at_most-2.ensures) c.loop.invariant.failures
