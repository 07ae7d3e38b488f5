use Rattle.std.proofs.Common.{false, length, sym, subst, ◌∙◌}
use Rattle.tp_flush.specs.Known.{Began}
use Rattle.tp_stream.specs.Failures.{answer_failed, fault_failed}
use Rattle.tp_stream.specs.Put.{EndsPut}
use Rattle.tp_stream.specs.Served.{ServedOn}
use Rattle.tp_stream.proofs.Accounted.{accounted}
use Rattle.tp_stream.proofs.FailedEnds.{flush_names_none, names_none}
use Rattle.tp_stream.proofs.Failures.{flush_begun}
use Rattle.tp_stream.proofs.Notices.{later_then}
use Rattle.tp_stream.proofs.Served.{served_until}
use Rattle.tp_stream.proofs.serving.serve.Goals as goal

pub returns-in-Ok-clause-served : goal.returns-in-Ok-clause-served
returns-in-Ok-clause-served g c =
    let start = g.J.Naming.formatted in
    let before = g.J.Naming.before in
    let old = c.args.flusher.now in
    let mid = c.lead-going.new.flusher in
    let was = c.args.streams.now.outputs.items in
    let now = c.lead-going.new.streams.outputs.items in
    served_until start before false old mid c.finish.new.flusher was now
    (subst (λ last. ServedOn start before (answer_failed last) old mid was now) c.in-Ok-Some.is c.lead-going.ensures.served) c.finish.ensures.premise c.finish.ensures.walks c.finish.ensures.process c.in-Ok.ensures.failures

pub returns-clause-served : goal.returns-clause-served
returns-clause-served g c =
    let start = g.J.Naming.formatted in
    let before = g.J.Naming.before in
    let old = c.args.flusher.now in
    let mid = c.lead-going.new.flusher in
    let was = c.args.streams.now.outputs.items in
    let now = c.lead-going.new.streams.outputs.items in
    served_until start before (fault_failed c.in-Err-finish.fault) old mid c.finish.new.flusher was now
    (subst (λ last. ServedOn start before (answer_failed last) old mid was now) c.in-Ok-Some.is c.lead-going.ensures.served) c.finish.ensures.premise c.finish.ensures.walks c.finish.ensures.process
    c.in-Err-finish.ensures.failures

pub returns-in-Ok-clause-last : goal.returns-in-Ok-clause-last
returns-in-Ok-clause-last g c k began =
    c.in-Ok.ensures.last k (subst (Began g.J.Naming.formatted g.J.Naming.before) (sym c.lead-going.ensures.served.process.opened) began)

pub returns-in-Ok-clause-told : goal.returns-in-Ok-clause-told
returns-in-Ok-clause-told g c = later_then (length g.J.Naming.start.nodes) _ _ _ c.lead-going.ensures.told c.tell_stopped.ensures

pub returns-clause-begun : goal.returns-clause-begun
returns-clause-begun g c = flush_begun c.in-Err-finish.fault c.in-Err-finish.ensures.begun

pub returns-in-Ok-clause-put : goal.returns-in-Ok-clause-put
returns-in-Ok-clause-put g c k began =
    subst (λ l. EndsPut g.J.Naming.formatted c.finish.new.flusher.world.journal c.in-Ok-Some.why l) c.deref.ensures.value
    (c.in-Ok.ensures.put k (subst (Began g.J.Naming.formatted g.J.Naming.before) (sym c.lead-going.ensures.served.process.opened) began))

pub returns-clause-ends : goal.returns-clause-ends
returns-clause-ends g c = names_none _ _ c.in-Err-finish.fault (flush_names_none c.in-Err-finish.fault c.in-Err-finish.ensures.begun)

-- ## Who made what

pub finish-requires : goal.finish-requires
finish-requires g c = record { first = c.mark-first.ensures ∙ c.requires.first }

pub returns-in-Ok-clause-accounted : goal.returns-in-Ok-clause-accounted
returns-in-Ok-clause-accounted g c k began =
    let N = c.lead-going.ensures.noted in
    let S = c.in-Ok.ensures.all k (subst (Began g.J.Naming.formatted g.J.Naming.before) (sym c.lead-going.ensures.served.process.opened) began) in
    accounted g.J.Naming.start g.J.Naming.first c.in-Ok.next c.finish.new.flusher.world.journal c.lead-going.result.0.steps c.lead-going.result.0.seat _ c.lead-going.result.0.host N.noted.slips N.made
    c.absorb.ensures S
