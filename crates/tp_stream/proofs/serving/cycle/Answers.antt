use Rattle.std.proofs.Common.{rules, map, ◌≡◌, Err, length, refl, sym, subst}
use Rattle.tp_stream.proofs.Lower.{AreTrue, Began, Flushing, walked_nowhere, given_input}
use Rattle.tp_stream.specs.Failures.{answer_failed, fault_failed}
use Rattle.tp_stream.specs.Served.{ServedOn}
use Rattle.tp_stream.proofs.FailedEnds.{flush_names_none, names_none}
use Rattle.tp_stream.proofs.Failures.{between_begun, between_unfailed, failed_still, flush_begun, if_err}
use Rattle.tp_stream.proofs.HandedFrom.{fed_none}
use Rattle.tp_stream.proofs.Notices.{later_none, later_progress}
use Rattle.tp_stream.proofs.Served.{fault_answered, served_still}
use Rattle.tp_stream.proofs.Stepping.{all_since}
use Rattle.tp_stream.proofs.serving.cycle.Goals as goal

pub returns-clause-served : goal.returns-clause-served
returns-clause-served g c =
    let start = g.J.Naming.formatted in
    let before = g.J.Naming.before in
    let old = c.args.flusher.now in
    let mid = c.flush.new.flusher in
    let failed = answer_failed c.go_on.result in
    let was = c.args.streams.now.outputs.items in
    let now = c.go_on.new.streams.outputs.items in
    let done : ServedOn start before failed old mid was now =
    record {
      premise = c.flush.ensures.premise;
      walks = c.flush.ensures.walks;
      process = c.flush.ensures.process;
      put = λ k began.
          let there = subst (Began start before) (sym c.flush.ensures.process.opened) began in
          let W = c.flush.ensures.walks k began in
          all_since start old mid mid W (walked_nowhere mid W.now) was now (c.go_on.ensures.put (subst (λ (f : Flushing). AreTrue f.reads) (sym c.go_on.ensures.same) k) there);
      failures = λ rests. failed_still failed old mid mid refl (between_unfailed c.go_on.result c.go_on.ensures.begun) (c.in_ok-flush.ensures.failures rests);
    } in
    subst (λ (f : Flushing). ServedOn start before failed old f was now) (sym c.go_on.ensures.same) done

pub returns-clause-answer : goal.returns-clause-answer
returns-clause-answer g c = record { why = c.go_on.ensures.why; inputs = c.go_on.ensures.inputs; begun = between_begun c.go_on.result c.go_on.ensures.begun }

pub returns-clause-over : goal.returns-clause-over
returns-clause-over g c = c.go_on.ensures.over

pub returns-clause-told : goal.returns-clause-told
returns-clause-told g c =
    later_progress (length g.J.Naming.start.nodes) c.args.ground.pace.task.tells c.args.ground.pace.rooms.journal c.flush.new.flusher c.args.going.now.turns.made _ _ _ c.tell.ensures

-- ## A flush that failed

pub returns-in_err-flush-clause-served : goal.returns-in_err-flush-clause-served
returns-in_err-flush-clause-served g c =
    let start = g.J.Naming.formatted in
    let before = g.J.Naming.before in
    let was = c.args.streams.now.outputs.items in
    let fault = c.in_err-flush.field-0.0 in
    let is : c.from_residual.result ≡ Err fault = search rules in
    subst (λ r. ServedOn start before (answer_failed r) c.args.flusher.now c.flush.new.flusher was was) (sym is)
    (served_still start before (fault_failed fault) c.args.flusher.now c.flush.new.flusher was c.flush.ensures.premise c.flush.ensures.walks c.flush.ensures.process c.in_err-flush.ensures.failures)

pub returns-in_err-flush-clause-answer : goal.returns-in_err-flush-clause-answer
returns-in_err-flush-clause-answer g c =
    let fault = c.in_err-flush.field-0.0 in
    let is : c.from_residual.result ≡ Err fault = search rules in
    fault_answered _ _ _ c.from_residual.result fault is (flush_begun fault c.in_err-flush.ensures.begun)

pub returns-in_err-flush-clause-told : goal.returns-in_err-flush-clause-told
returns-in_err-flush-clause-told g c = later_none (length g.J.Naming.start.nodes) (g.L.Listener.told c.args.listener.now)

pub returns-in_err-flush-clause-ends : goal.returns-in_err-flush-clause-ends
returns-in_err-flush-clause-ends g c =
    let fault = c.in_err-flush.field-0.0 in
    let is : c.from_residual.result ≡ Err fault = search rules in
    if_err c.from_residual.result fault _ is (names_none _ _ fault (flush_names_none fault c.in_err-flush.ensures.begun))

pub returns-in_err-flush-clause-fed : goal.returns-in_err-flush-clause-fed
returns-in_err-flush-clause-fed g c = fed_none g.J.Naming.accepted (map (λ i. given_input i.port (g.I.Source.input i.source)) c.args.streams.now.inputs.items) c.args.going.now.host

pub returns-in_err-flush-clause-noted : goal.returns-in_err-flush-clause-noted
returns-in_err-flush-clause-noted g c N = N

pub returns-clause-noted : goal.returns-clause-noted
returns-clause-noted g c N = c.go_on.ensures.noted N
