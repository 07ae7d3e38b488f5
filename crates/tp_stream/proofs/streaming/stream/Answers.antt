use Rattle.std.proofs.Common.{◌≡◌, ◌++◌, inl, inr, List, length, map, Err, refl, sym, ap, subst, ◌∙◌}
use Rattle.std.specs.Prelude.{IfOk}
use Rattle.tp_stream.proofs.Lower.{AreTrue, Reading, Moment, node_count, Began, Opened, next_of, Ended, given_input, given_of}
use Rattle.tp_stream.specs.declared.fault.StreamFault.TheVariants.{Opening}
use Rattle.tp_stream.specs.Failures.{answer_failed, calls_failed, fault_failed}
use Rattle.tp_stream.specs.Fitting.{Fits, SaysFit, SaysUnfit}
use Rattle.tp_stream.specs.Quiet.{LeavesNothingToDo}
use Rattle.tp_stream.specs.Put.{ServedInto, StreamedInto}
use Rattle.tp_stream.specs.Streamed.{Streamed}
use Rattle.tp_stream.specs.Standing.{AllHaveAccepted, AllMayBegin, IsFirstRefused, IsFirstShort, OfInput, OfOutput, accepted_opened, stands_opened}
use Rattle.tp_stream.specs.Told.{ToldFirst, ToldLater, input_begins, output_begins}
use Rattle.tp_stream.proofs.FailedEnds.{names_none, neither_names_none}
use Rattle.tp_stream.proofs.Failures.{begun_answers, neither_answers, neither_failed, not_begun_neither, opening_counted, uncounted, unfit_neither}
use Rattle.tp_stream.proofs.Fitted.{begun_fits, not_begun_fits, opened_ports, unfit}
use Rattle.tp_stream.proofs.Notices.{first_later}
use Rattle.tp_stream.proofs.Runs.{begun_written, into, unput, unwritten}
use Rattle.tp_stream.proofs.Started.{shape_is}
use Rattle.tp_stream.proofs.Standings.{begun_refused, begun_short, no_input, no_output, on_ok, same_opened, says_first, says_short}
use Rattle.tp_stream.proofs.streaming.stream.Goals as goal

-- the premise on a device that is this one
same_device : {A : Type 0} (reads : A → List Reading) {a b : A} → a ≡ b → AreTrue (reads a) → AreTrue (reads b)
same_device reads same k = subst (λ d. AreTrue (reads d)) same k

pub stream_parts-requires-clause-names : goal.stream_parts-requires-clause-names
stream_parts-requires-clause-names g c κs within =
    let N = shape_is c.in-Ok.opened c.of-known.result.value _ _ c.of-known.ensures c.in-Ok-parts_of.ensures.parts c.known.ensures.cut in
    record { roll_is = refl; first_is = refl; wires_are = N.0; count_is = N.1; ports_are = N.2; nodes_are = λ i. refl; mark_is = refl; flusher_is = refl; host_is = refl; sights_is = refl; room_is = refl; accepted_is = λ p. refl }

pub returns-in-Err-clause-streamed : goal.returns-in-Err-clause-streamed
returns-in-Err-clause-streamed g c k began =
    unwritten g.history.formatted (Opening c.in-Err.unopened) (g.D.Disk.state c.args.disk) (g.D.Disk.state c.open.new.disk) c.open.ensures.leaves

pub returns-in-Some-clause-streamed : goal.returns-in-Some-clause-streamed
returns-in-Some-clause-streamed g c k began =
    unwritten g.history.formatted c.in-Some.fault (g.D.Disk.state c.args.disk) (g.D.Disk.state c.open.new.disk) c.open.ensures.leaves

pub returns-in-Err-parts_of-clause-streamed : goal.returns-in-Err-parts_of-clause-streamed
returns-in-Err-parts_of-clause-streamed g c k began =
    subst (λ d. Streamed g.history.formatted (Err c.in-Err-parts_of.fault) (g.D.Disk.state c.args.disk) (g.D.Disk.state d)) (sym (c.into_disk.ensures ∙ c.store-store.ensures.disk))
    (unwritten g.history.formatted c.in-Err-parts_of.fault (g.D.Disk.state c.args.disk) (g.D.Disk.state c.open.new.disk) c.open.ensures.leaves)

-- ## The premise

pub returns-in-Err-parts_of-clause-premise : goal.returns-in-Err-parts_of-clause-premise
returns-in-Err-parts_of-clause-premise g c k = c.open.ensures.premise (same_device g.D.Disk.reads (c.into_disk.ensures ∙ c.store-store.ensures.disk) k)

pub returns-clause-premise : goal.returns-clause-premise
returns-clause-premise g c k = c.open.ensures.premise (same_device g.D.Disk.reads c.store-store.ensures.disk (c.stream_parts.ensures.premise k))

-- ## What was put

pub returns-in-Err-clause-put : goal.returns-in-Err-clause-put
returns-in-Err-clause-put g c k began =
    let outputs = c.args.streams.now.outputs.items in
    unput g.history.formatted _ (Opening c.in-Err.unopened) outputs outputs (g.D.Disk.state c.args.disk) (g.D.Disk.state c.open.new.disk) c.open.ensures.leaves refl

pub returns-in-Some-clause-put : goal.returns-in-Some-clause-put
returns-in-Some-clause-put g c k began =
    let outputs = c.args.streams.now.outputs.items in
    unput g.history.formatted _ c.in-Some.fault outputs outputs (g.D.Disk.state c.args.disk) (g.D.Disk.state c.open.new.disk) c.open.ensures.leaves refl

pub returns-in-Err-parts_of-clause-put : goal.returns-in-Err-parts_of-clause-put
returns-in-Err-parts_of-clause-put g c k began =
    let was = c.args.streams.now.outputs.items in
    let now = c.parts_of.new.streams.outputs.items in
    let inputs = map (λ i. given_input i.port (g.I.Source.input i.source)) c.args.streams.now.inputs.items in
    subst (λ d. StreamedInto g.history.formatted inputs (Err c.in-Err-parts_of.fault) was now (g.D.Disk.state c.args.disk) (g.D.Disk.state d)) (sym (c.into_disk.ensures ∙ c.store-store.ensures.disk))
    (unput g.history.formatted inputs c.in-Err-parts_of.fault was now (g.D.Disk.state c.args.disk) (g.D.Disk.state c.open.new.disk) c.open.ensures.leaves c.in-Err-parts_of.ensures.untouched)

pub returns-clause-put : goal.returns-clause-put
returns-clause-put g c k began =
    let read = same_device g.D.Disk.reads c.store-store.ensures.disk (c.stream_parts.ensures.premise k) in
    let start = g.history.formatted in
    let done = c.stream_parts.result.1 in
    let was = c.args.streams.now.outputs.items in
    let set = c.parts_of.new.streams.outputs.items in
    let now = c.stream_parts.new.streams.outputs.items in
    let kept : (g.D.Disk.state c.open.new.disk).now.bytes ≡ (g.D.Disk.state c.args.disk).now.bytes = ap (λ (m : Moment). m.bytes) c.in-Ok.ensures.kept in
    let same : (g.D.Disk.state c.store-store.result.disk).now.bytes ≡ (g.D.Disk.state c.args.disk).now.bytes = ap (λ d. (g.D.Disk.state d).now.bytes) c.store-store.ensures.disk ∙ kept in
    let o = c.in-Ok.opened in
    let inputs = map (λ i. given_input i.port (g.I.Source.input i.source)) c.args.streams.now.inputs.items in
    let unread = map (λ i. given_input i.port (g.I.Source.input i.source)) c.parts_of.new.streams.inputs.items in
    into start inputs done o was set now (g.D.Disk.state c.args.disk) (g.D.Disk.state c.open.new.disk) (g.D.Disk.state c.stream_parts.result.0) c.open.ensures.leaves kept
    (c.in-Ok.ensures.is read) c.in-Ok-parts_of.ensures.set
    (subst (λ d. ServedInto start o.cut (next_of o) inputs (accepted_opened o) done set now (g.D.Disk.state d) (g.D.Disk.state c.stream_parts.result.0)) c.store-store.ensures.disk
    (subst (λ is. ServedInto start o.cut (next_of o) is (accepted_opened o) done set now (g.D.Disk.state c.store-store.result.disk) (g.D.Disk.state c.stream_parts.result.0)) c.in-Ok-parts_of.ensures.unread
    (subst (λ x. ServedInto start x.cut (next_of x) unread (accepted_opened x) done set now (g.D.Disk.state c.store-store.result.disk) (g.D.Disk.state c.stream_parts.result.0)) (c.of-known.ensures)
    (c.stream_parts.ensures.streamed k (subst (Began start g.history.before) (sym same) began)))))

pub returns-clause-streamed : goal.returns-clause-streamed
returns-clause-streamed g c k began = (returns-clause-put g c k began).streamed

pub returns-clause-unwritten : goal.returns-clause-unwritten
returns-clause-unwritten g c unbegun = absurd (begun_written c.stream_parts.result.1 c.stream_parts.ensures.begun unbegun)

-- ## What outputs may begin, and what they hold

pub returns-clause-begun : goal.returns-clause-begun
returns-clause-begun g c k other is =
    let read = same_device g.D.Disk.reads c.store-store.ensures.disk (c.stream_parts.ensures.premise k) in
    on_ok c.stream_parts.result.1 _
    (subst (λ o. AllMayBegin (stands_opened o) (map given_of c.args.streams.now.outputs.items)) (same_opened _ _ _ (c.in-Ok.ensures.is read) is) c.in-Ok-parts_of.ensures.begun)

pub returns-in-Some-clause-refused : goal.returns-in-Some-clause-refused
returns-in-Some-clause-refused g c k other is = no_output c.in-Some.fault _ c.in-Some.ensures.output

pub returns-in-Err-parts_of-clause-refused : goal.returns-in-Err-parts_of-clause-refused
returns-in-Err-parts_of-clause-refused g c k other is =
    let read = same_device g.D.Disk.reads (c.into_disk.ensures ∙ c.store-store.ensures.disk) k in
    let fault = c.in-Err-parts_of.fault in
    let gs = map given_of c.args.streams.now.outputs.items in
    subst (λ o. OfOutput fault (IsFirstRefused (length o.now.ports) (stands_opened o) gs fault)) (same_opened _ _ _ (c.in-Ok.ensures.is read) is)
    (says_first _ _ _ gs _ fault c.in-Err-parts_of.ensures.refused)

pub returns-clause-refused : goal.returns-clause-refused
returns-clause-refused g c k other is = begun_refused c.stream_parts.result.1 _ c.stream_parts.ensures.begun

pub returns-in-Err-clause-kept : goal.returns-in-Err-clause-kept
returns-in-Err-clause-kept g c k other is = inl refl

pub returns-in-Some-clause-kept : goal.returns-in-Some-clause-kept
returns-in-Some-clause-kept g c k other is = inl refl

pub returns-in-Err-parts_of-clause-kept : goal.returns-in-Err-parts_of-clause-kept
returns-in-Err-parts_of-clause-kept g c k other is = inl c.in-Err-parts_of.ensures.untouched

pub returns-clause-kept : goal.returns-clause-kept
returns-clause-kept g c k other is =
    let read = same_device g.D.Disk.reads c.store-store.ensures.disk (c.stream_parts.ensures.premise k) in
    inr (subst (λ o. AllMayBegin (stands_opened o) (map given_of c.args.streams.now.outputs.items)) (same_opened _ _ _ (c.in-Ok.ensures.is read) is) c.in-Ok-parts_of.ensures.begun)

pub returns-clause-untouched : goal.returns-clause-untouched
returns-clause-untouched g c unbegun = absurd (begun_written c.stream_parts.result.1 c.stream_parts.ensures.begun unbegun)

-- ## What inputs may begin

pub returns-clause-inputs : goal.returns-clause-inputs
returns-clause-inputs g c k other is =
    let read = same_device g.D.Disk.reads c.store-store.ensures.disk (c.stream_parts.ensures.premise k) in
    on_ok c.stream_parts.result.1 _
    (subst (λ o. AllHaveAccepted (accepted_opened o) (map (λ i. given_input i.port (g.I.Source.input i.source)) c.args.streams.now.inputs.items))
    (same_opened _ _ _ (c.in-Ok.ensures.is read) is) c.in-Ok-parts_of.ensures.inputs)

pub returns-in-Some-clause-short : goal.returns-in-Some-clause-short
returns-in-Some-clause-short g c k other is = no_input c.in-Some.fault _ c.in-Some.ensures.input

pub returns-in-Err-parts_of-clause-short : goal.returns-in-Err-parts_of-clause-short
returns-in-Err-parts_of-clause-short g c k other is =
    let read = same_device g.D.Disk.reads (c.into_disk.ensures ∙ c.store-store.ensures.disk) k in
    let fault = c.in-Err-parts_of.fault in
    let gs = map given_of c.args.streams.now.outputs.items in
    let inputs = map (λ i. given_input i.port (g.I.Source.input i.source)) c.args.streams.now.inputs.items in
    subst (λ o. OfInput fault (AllMayBegin (stands_opened o) gs × IsFirstShort (length o.now.ports) (accepted_opened o) inputs fault)) (same_opened _ _ _ (c.in-Ok.ensures.is read) is)
    (says_short _ _ _ gs inputs fault c.in-Err-parts_of.ensures.refused)

pub returns-clause-short : goal.returns-clause-short
returns-clause-short g c k other is = begun_short c.stream_parts.result.1 _ c.stream_parts.ensures.begun

-- ## What was told

pub returns-clause-told : goal.returns-clause-told
returns-clause-told g c k other is =
    let read = same_device g.D.Disk.reads c.store-store.ensures.disk (c.stream_parts.ensures.premise k) in
    let gs = map given_of c.args.streams.now.outputs.items in
    let inputs = map (λ i. given_input i.port (g.I.Source.input i.source)) c.args.streams.now.inputs.items in
    let was = g.L.Listener.told c.args.listener.now in
    let between = g.L.Listener.told c.parts_of.new.listener in
    let now = g.L.Listener.told c.stream_parts.new.listener in
    on_ok c.stream_parts.result.1 _
    (subst (λ o. ToldFirst (map (output_begins (stands_opened o)) gs ++ map (input_begins (accepted_opened o)) inputs) (node_count o.head.topology) was now) (same_opened _ _ _ (c.in-Ok.ensures.is read) is)
    (first_later _ (node_count c.in-Ok.opened.head.topology) was between now c.in-Ok-parts_of.ensures.told
    (subst (λ t. ToldLater (node_count t) between now) c.topology_of-topology.ensures c.stream_parts.ensures.told)))

-- ## Where it is quiet

pub returns-clause-quiet : goal.returns-clause-quiet
returns-clause-quiet g c k other is =
    let read = same_device g.D.Disk.reads c.store-store.ensures.disk (c.stream_parts.ensures.premise k) in
    let done = c.stream_parts.result.1 in
    subst (λ o. IfOk done (λ ended. LeavesNothingToDo o.head.topology ended.why)) (same_opened _ _ _ (c.in-Ok.ensures.is read) is)
    (subst (λ t. IfOk done (λ ended. LeavesNothingToDo t ended.why)) c.topology_of-topology.ensures c.stream_parts.ensures.quiet)

-- ## Whether it may be run

pub returns-in-Err-clause-fits : goal.returns-in-Err-clause-fits
returns-in-Err-clause-fits g c k other is = tt

pub returns-in-Some-clause-fits : goal.returns-in-Some-clause-fits
returns-in-Some-clause-fits g c k other is =
    let outputs = c.args.streams.now.outputs.items in
    let inputs = map (λ i. i.port) c.args.streams.now.inputs.items in
    let same = c.topology.ensures.value ∙ ap (λ h. h.topology) c.head.ensures in
    subst (λ o. SaysUnfit c.args.task o.head.topology outputs inputs c.in-Some.fault) (same_opened _ _ _ (c.in-Ok.ensures.is k) is)
    (subst (λ t. SaysUnfit c.args.task t outputs inputs c.in-Some.fault) same (unfit c.args.task _ outputs inputs c.in-Some.fault c.in-Some.ensures.unfit))

pub returns-in-Err-parts_of-clause-fits : goal.returns-in-Err-parts_of-clause-fits
returns-in-Err-parts_of-clause-fits g c k other is =
    let read = same_device g.D.Disk.reads (c.into_disk.ensures ∙ c.store-store.ensures.disk) k in
    let outputs = c.args.streams.now.outputs.items in
    let items = c.args.streams.now.inputs.items in
    let fault = c.in-Err-parts_of.fault in
    let same = c.topology.ensures.value ∙ ap (λ h. h.topology) c.head.ensures in
    subst (λ o. SaysUnfit c.args.task o.head.topology outputs (map (λ i. i.port) items) fault) (same_opened _ _ _ (c.in-Ok.ensures.is read) is)
    (not_begun_fits c.args.task c.in-Ok.opened.head.topology outputs (λ i. given_input i.port (g.I.Source.input i.source)) items _ _ _ fault
    (opened_ports c.in-Ok.opened c.known.ensures.cut c.known.ensures.leads) (subst (λ t. Fits c.args.task t outputs (map (λ i. i.port) items)) same c.in_default.ensures.fits)
    c.in-Err-parts_of.ensures.refused)

pub returns-clause-fits : goal.returns-clause-fits
returns-clause-fits g c k other is =
    let read = same_device g.D.Disk.reads c.store-store.ensures.disk (c.stream_parts.ensures.premise k) in
    let outputs = c.args.streams.now.outputs.items in
    let inputs = map (λ i. i.port) c.args.streams.now.inputs.items in
    let done = c.stream_parts.result.1 in
    let same = c.topology.ensures.value ∙ ap (λ h. h.topology) c.head.ensures in
    subst (λ o. SaysFit c.args.task o.head.topology outputs inputs done) (same_opened _ _ _ (c.in-Ok.ensures.is read) is)
    (begun_fits c.args.task _ outputs inputs done (subst (λ t. Fits c.args.task t outputs inputs) same c.in_default.ensures.fits) c.stream_parts.ensures.begun)

-- ## Which fault

pub returns-in-Err-clause-answer : goal.returns-in-Err-clause-answer
returns-in-Err-clause-answer g c k = c.in-Err.ensures.is k

pub returns-in-Some-clause-answer : goal.returns-in-Some-clause-answer
returns-in-Some-clause-answer g c k =
    let outputs = c.args.streams.now.outputs.items in
    let inputs = map (λ i. i.port) c.args.streams.now.inputs.items in
    neither_answers Ended _ c.in-Some.fault (c.in-Ok.opened, c.in-Ok.ensures.is k) (unfit_neither c.args.task c.topology.result.now outputs inputs c.in-Some.fault c.in-Some.ensures.unfit)

pub returns-in-Err-parts_of-clause-answer : goal.returns-in-Err-parts_of-clause-answer
returns-in-Err-parts_of-clause-answer g c k =
    let read = same_device g.D.Disk.reads (c.into_disk.ensures ∙ c.store-store.ensures.disk) k in
    let fault = c.in-Err-parts_of.fault in
    neither_answers Ended _ fault (c.in-Ok.opened, c.in-Ok.ensures.is read) (not_begun_neither _ _ _ _ _ fault c.in-Err-parts_of.ensures.refused)

pub returns-clause-answer : goal.returns-clause-answer
returns-clause-answer g c k =
    let read = same_device g.D.Disk.reads c.store-store.ensures.disk (c.stream_parts.ensures.premise k) in
    begun_answers _ c.stream_parts.result.1 (c.in-Ok.opened, c.in-Ok.ensures.is read) c.stream_parts.ensures.begun

-- ## How many calls have failed

pub returns-in-Err-clause-failures : goal.returns-in-Err-clause-failures
returns-in-Err-clause-failures g c = opening_counted Opened c.in-Err.unopened (g.D.Disk.failures_of c.args.disk) (g.D.Disk.failures_of c.open.new.disk) c.in-Err.ensures.counts.failures

pub returns-in-Some-clause-failures : goal.returns-in-Some-clause-failures
returns-in-Some-clause-failures g c =
    let fault = c.in-Some.fault in
    let outputs = c.args.streams.now.outputs.items in
    let inputs = map (λ i. i.port) c.args.streams.now.inputs.items in
    uncounted (g.D.Disk.failures_of c.open.new.disk) (g.D.Disk.failures_of c.args.disk) (fault_failed fault)
    (neither_failed fault (unfit_neither c.args.task c.topology.result.now outputs inputs fault c.in-Some.ensures.unfit)) c.in-Ok.ensures.counts.failures

pub returns-in-Err-parts_of-clause-failures : goal.returns-in-Err-parts_of-clause-failures
returns-in-Err-parts_of-clause-failures g c =
    let fault = c.in-Err-parts_of.fault in
    uncounted _ _ (fault_failed fault) (neither_failed fault (not_begun_neither _ _ _ _ _ fault c.in-Err-parts_of.ensures.refused))
    (ap g.D.Disk.failures_of (c.into_disk.ensures ∙ c.store-store.ensures.disk) ∙ c.in-Ok.ensures.counts.failures)

pub returns-clause-failures : goal.returns-clause-failures
returns-clause-failures g c =
    subst (λ n. g.D.Disk.failures_of c.stream_parts.result.0 ≡ calls_failed (answer_failed c.stream_parts.result.1) n)
    (ap g.D.Disk.failures_of c.store-store.ensures.disk ∙ c.in-Ok.ensures.counts.failures) c.stream_parts.ensures.failures

-- ## Which end it names

pub returns-in-Some-clause-ends : goal.returns-in-Some-clause-ends
returns-in-Some-clause-ends g c =
    let fault = c.in-Some.fault in
    let outputs = c.args.streams.now.outputs.items in
    let inputs = map (λ i. i.port) c.args.streams.now.inputs.items in
    names_none _ _ fault (neither_names_none fault (unfit_neither c.args.task c.topology.result.now outputs inputs fault c.in-Some.ensures.unfit))

pub returns-in-Err-parts_of-clause-ends : goal.returns-in-Err-parts_of-clause-ends
returns-in-Err-parts_of-clause-ends g c =
    let fault = c.in-Err-parts_of.fault in
    names_none _ _ fault (neither_names_none fault (not_begun_neither _ _ _ _ _ fault c.in-Err-parts_of.ensures.refused))
