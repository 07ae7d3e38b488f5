use Rattle.std.proofs.Common.{false, refl, sym, subst, ◌∙◌}
use Rattle.tp_stream.proofs.Lower.{Began, walked_nowhere, walked_then}
use Rattle.tp_stream.specs.Failures.{fault_failed}
use Rattle.tp_stream.proofs.Failures.{failed_then, none_failed}
use Rattle.tp_stream.proofs.beside.flush_beside.Goals as goal

pub loop-init : goal.loop-init
loop-init g c = record {
  queue = c.requires.queue;
  made = c.requires.made;
  process = record { opened = refl; size = refl; topology = refl };
  failures = λ rests. none_failed c.args.flusher.now rests;
  premise = λ k. k;
  walks = λ k began. walked_nowhere c.args.flusher.now (c.known.ensures.disk k);
}

pub loop-preserved : goal.loop-preserved
loop-preserved g c =
    let P = c.loop.invariant.process in
    let Q = c.flush.ensures.process in
    record {
      queue = c.help_seated.ensures.queue;
      made = c.help_seated.ensures.made;
      process = record { opened = Q.opened ∙ P.opened; size = Q.size ∙ P.size; topology = Q.topology ∙ P.topology };
      failures = λ rests.
          let F = c.loop.invariant.failures rests in failed_then false c.args.flusher.now c.loop.flusher c.flush.new.flusher F (c.in_default-flush.ensures.failures F.at);
      premise = λ k. c.loop.invariant.premise (c.flush.ensures.premise k);
      walks = λ k began.
          walked_then c.args.flusher.now c.loop.flusher c.flush.new.flusher (c.loop.invariant.walks (c.flush.ensures.premise k) began)
          (c.flush.ensures.walks k (subst (Began g.J.Naming.formatted g.J.Naming.before) (sym P.opened) began));
    }

pub returns-in-Err-clause-premise : goal.returns-in-Err-clause-premise
returns-in-Err-clause-premise g c k = c.loop.invariant.premise (c.flush.ensures.premise k)

pub returns-in-Err-clause-walks : goal.returns-in-Err-clause-walks
returns-in-Err-clause-walks g c k began =
    walked_then c.args.flusher.now c.loop.flusher c.flush.new.flusher (c.loop.invariant.walks (c.flush.ensures.premise k) began)
    (c.flush.ensures.walks k (subst (Began g.J.Naming.formatted g.J.Naming.before) (sym c.loop.invariant.process.opened) began))

pub returns-in-Err-clause-process : goal.returns-in-Err-clause-process
returns-in-Err-clause-process g c =
    let P = c.loop.invariant.process in
    let Q = c.flush.ensures.process in
    record { opened = Q.opened ∙ P.opened; size = Q.size ∙ P.size; topology = Q.topology ∙ P.topology }

pub returns-in-Err-clause-failures : goal.returns-in-Err-clause-failures
returns-in-Err-clause-failures g c rests =
    let F = c.loop.invariant.failures rests in failed_then (fault_failed c.in-Err.fault) c.args.flusher.now c.loop.flusher c.flush.new.flusher F (c.in-Err.ensures.failures F.at)
