use Rattle.std.proofs.Common.{◌≡◌, ◌<◌, length, Err, Some, None, false, refl, sym, ap, subst, ◌∙◌}
use Rattle.std.specs.Prelude.{nat_lt, IfErr, IfOk}
use Rattle.tp_run.proofs.Lower.{AreTrue, Moment, Head, Topology, Began, Opened}
use Rattle.tp_run.specs.declared.fault.RunFault.TheVariants.{Opening, Memory, OfferRefused}
use Rattle.tp_run.specs.declared.outset.Outset.{Outset}
use Rattle.tp_run.specs.Input.{rest_at}
use Rattle.tp_run.specs.Failures.{failures_after, has_failed, is_failure}
use Rattle.tp_run.specs.Made.{has_pages, job_fault}
use Rattle.tp_run.specs.Prints.{ComesSilent}
use Rattle.tp_run.specs.Ran.{Ran, RanInto}
use Rattle.tp_run.proofs.Answered.{answered, none_of, port_there, wrong_is, wrong_told}
use Rattle.tp_run.proofs.Failures.{opening_counted, uncounted}
use Rattle.tp_run.proofs.Faults.{begun_written}
use Rattle.tp_run.proofs.Made.{shape_is}
use Rattle.tp_run.specs.Rested.{RestsAt}
use Rattle.tp_run.proofs.Rested.{opened_rests}
use Rattle.tp_run.proofs.Runs.{opened_into, ran_silent, unwritten_ran}
use Rattle.tp_run.proofs.running.run.Goals as goal

pub run_parts-requires-clause-names : goal.run_parts-requires-clause-names
run_parts-requires-clause-names g c κs within =
    let N = shape_is c.in-Ok.opened c.of-known.result.value c.in-Ok-parts_of.parts c.in-Ok-parts_of.raiser c.of-known.ensures c.in-Ok-parts_of.ensures.parts c.known.ensures.cut in
    record {
      roll_is = refl;
      first_is = refl;
      wires_are = N.0;
      count_is = N.1;
      ports_are = N.2;
      nodes_are = λ i. refl;
      mark_is = refl;
      flusher_is = refl;
      host_is = refl;
      sights_is = refl;
      room_is = refl;
      accepted_is = λ p. refl;
    }

pub returns-in_default-parts_of-clause-premise : goal.returns-in_default-parts_of-clause-premise
returns-in_default-parts_of-clause-premise g c k = c.open.ensures.premise (subst (λ d. AreTrue (g.D.Disk.reads d)) (c.into_disk.ensures ∙ c.store-store.ensures.disk) k)

pub returns-clause-premise : goal.returns-clause-premise
returns-clause-premise g c k = c.open.ensures.premise (subst (λ d. AreTrue (g.D.Disk.reads d)) c.store-store.ensures.disk (c.run_parts.ensures.premise k))

pub returns-in-Err-clause-ran : goal.returns-in-Err-clause-ran
returns-in-Err-clause-ran g c k began =
    unwritten_ran g.history.formatted c.args.job c.args.input.now (g.O.Outlet.value c.args.out.now).taken (Opening c.in-Err.unopened) (g.D.Disk.state c.args.disk) (g.D.Disk.state c.open.new.disk) c.open.ensures.leaves tt

pub returns-in-Err-clause-called : goal.returns-in-Err-clause-called
returns-in-Err-clause-called g c k began =
    ran_silent g.history.formatted c.args.job c.args.input.now (g.O.Outlet.value c.args.out.now) _ (g.D.Disk.state c.args.disk) (g.D.Disk.state c.open.new.disk) (returns-in-Err-clause-ran g c k began)

pub returns-in-Some-clause-ran : goal.returns-in-Some-clause-ran
returns-in-Some-clause-ran g c k began =
    unwritten_ran g.history.formatted c.args.job c.args.input.now (g.O.Outlet.value c.args.out.now).taken c.in-Some.fault (g.D.Disk.state c.args.disk) (g.D.Disk.state c.open.new.disk) c.open.ensures.leaves
    (wrong_is ComesSilent (has_pages c.args.job.spare c.topology.result.now) (nat_lt c.args.job.port c.topology.result.now.ports) c.in-Some.fault (sym c.in-Some.ensures) tt tt)

pub returns-in-Some-clause-called : goal.returns-in-Some-clause-called
returns-in-Some-clause-called g c k began =
    ran_silent g.history.formatted c.args.job c.args.input.now (g.O.Outlet.value c.args.out.now) _ (g.D.Disk.state c.args.disk) (g.D.Disk.state c.open.new.disk) (returns-in-Some-clause-ran g c k began)

pub returns-in_default-parts_of-clause-ran : goal.returns-in_default-parts_of-clause-ran
returns-in_default-parts_of-clause-ran g c k began =
    let out = (g.O.Outlet.value c.args.out.now).taken in
    subst (λ d. Ran g.history.formatted c.args.job c.args.input.now out out (Err Memory) (g.D.Disk.state c.args.disk) (g.D.Disk.state d)) (sym (c.into_disk.ensures ∙ c.store-store.ensures.disk))
    (unwritten_ran g.history.formatted c.args.job c.args.input.now out Memory (g.D.Disk.state c.args.disk) (g.D.Disk.state c.open.new.disk) c.open.ensures.leaves tt)

pub returns-in_default-parts_of-clause-called : goal.returns-in_default-parts_of-clause-called
returns-in_default-parts_of-clause-called g c k began =
    ran_silent g.history.formatted c.args.job c.args.input.now (g.O.Outlet.value c.args.out.now) _ (g.D.Disk.state c.args.disk) (g.D.Disk.state c.into_disk.result) (returns-in_default-parts_of-clause-ran g c k began)

pub returns-clause-called : goal.returns-clause-called
returns-clause-called g c k began =
    let start = g.history.formatted in
    let job = c.args.job in
    let input = c.args.input.now in
    let was = g.O.Outlet.value c.args.out.now in
    let now = g.O.Outlet.value c.run_parts.new.out in
    let done = c.run_parts.result.1 in
    let kept : (g.D.Disk.state c.open.new.disk).now.bytes ≡ (g.D.Disk.state c.args.disk).now.bytes = ap (λ (m : Moment). m.bytes) c.in-Ok.ensures.kept in
    let same : (g.D.Disk.state c.store-store.result.disk).now.bytes ≡ (g.D.Disk.state c.args.disk).now.bytes = ap (λ d. (g.D.Disk.state d).now.bytes) c.store-store.ensures.disk ∙ kept in
    opened_into start job input was now done (g.D.Disk.state c.args.disk) (g.D.Disk.state c.open.new.disk) (g.D.Disk.state c.run_parts.result.0) c.open.ensures.leaves kept
    (subst (λ d. RanInto start job input was now done (g.D.Disk.state d) (g.D.Disk.state c.run_parts.result.0)) c.store-store.ensures.disk
    (c.run_parts.ensures.called k (subst (Began start g.history.before) (sym same) began)))

pub returns-clause-rest : goal.returns-clause-rest
returns-clause-rest g c k began =
    let start = g.history.formatted in
    let done = c.run_parts.result.1 in
    let rest = c.run_parts.result.2 in
    let kept : (g.D.Disk.state c.open.new.disk).now.bytes ≡ (g.D.Disk.state c.args.disk).now.bytes = ap (λ (m : Moment). m.bytes) c.in-Ok.ensures.kept in
    let same : (g.D.Disk.state c.store-store.result.disk).now.bytes ≡ (g.D.Disk.state c.args.disk).now.bytes = ap (λ d. (g.D.Disk.state d).now.bytes) c.store-store.ensures.disk ∙ kept in
    opened_rests start rest done (g.D.Disk.state c.args.disk) (g.D.Disk.state c.open.new.disk) (g.D.Disk.state c.run_parts.result.0) kept
    (subst (λ d. IfOk done (λ next. RestsAt start rest next (g.D.Disk.state d) (g.D.Disk.state c.run_parts.result.0))) c.store-store.ensures.disk
    (c.run_parts.ensures.rest k (subst (Began start g.history.before) (sym same) began)))

pub returns-clause-ran : goal.returns-clause-ran
returns-clause-ran g c k began = (returns-clause-called g c k began).ran

pub returns-clause-unwritten : goal.returns-clause-unwritten
returns-clause-unwritten g c unbegun = absurd (begun_written c.run_parts.result.1 c.run_parts.ensures.begun unbegun)

-- ## Which fault

pub returns-in-Err-clause-answer : goal.returns-in-Err-clause-answer
returns-in-Err-clause-answer g c k = c.in-Err.ensures.is k

pub returns-in-Some-clause-answer : goal.returns-in-Some-clause-answer
returns-in-Some-clause-answer g c k =
    let job = c.args.job in
    let said = subst (λ (t : Topology). Some c.in-Some.fault ≡ job_fault job.spare job.port t) (c.topology.ensures.value ∙ ap (λ (h : Head). h.topology) c.head.ensures) c.in-Some.ensures in
    wrong_told _ job c.args.input.now c.in-Ok.opened (has_pages job.spare c.in-Ok.opened.head.topology) (nat_lt job.port c.in-Ok.opened.head.topology.ports) c.in-Some.fault (c.in-Ok.ensures.is k) refl (sym said)

pub run_parts-requires-clause-port : goal.run_parts-requires-clause-port
run_parts-requires-clause-port g c κs within =
    let job = c.args.job in
    let right = sym c.job_fault.ensures ∙ none_of c.job_fault.result c.in_default.not-Some in
    let has = subst (λ (t : Topology). job_fault job.spare job.port t ≡ None) (c.topology.ensures.value ∙ ap (λ (h : Head). h.topology) c.head.ensures) right in
    subst (λ (o : Opened). job.port < o.head.topology.ports) (sym c.of-known.ensures) (port_there job.spare job.port c.in-Ok.opened.head.topology has)

pub returns-in_default-parts_of-clause-answer : goal.returns-in_default-parts_of-clause-answer
returns-in_default-parts_of-clause-answer g c k =
    let job = c.args.job in
    let right = sym c.job_fault.ensures ∙ none_of c.job_fault.result c.in_default.not-Some in
    let has = subst (λ (t : Topology). job_fault job.spare job.port t ≡ None) (c.topology.ensures.value ∙ ap (λ (h : Head). h.topology) c.head.ensures) right in
    record { opened = c.in-Ok.opened; is = c.in-Ok.ensures.is (subst (λ d. AreTrue (g.D.Disk.reads d)) (c.into_disk.ensures ∙ c.store-store.ensures.disk) k); has = has }

pub returns-clause-answer : goal.returns-clause-answer
returns-clause-answer g c k =
    let job = c.args.job in
    let opened = c.in-Ok.opened in
    let right = sym c.job_fault.ensures ∙ none_of c.job_fault.result c.in_default.not-Some in
    let has = subst (λ (t : Topology). job_fault job.spare job.port t ≡ None) (c.topology.ensures.value ∙ ap (λ (h : Head). h.topology) c.head.ensures) right in
    let some = subst (λ (u : Outset). IfErr c.run_parts.result.1 (λ fault. fault ≡ OfferRefused → 0 < length (rest_at u c.args.input.now))) c.in-Ok-parts_of.ensures.outset c.run_parts.ensures.some in
    answered _ job c.args.input.now opened c.run_parts.result.1 (c.in-Ok.ensures.is (subst (λ d. AreTrue (g.D.Disk.reads d)) c.store-store.ensures.disk (c.run_parts.ensures.premise k))) has c.run_parts.ensures.begun some

-- ## How many calls of the device have failed

pub returns-in-Err-clause-failures : goal.returns-in-Err-clause-failures
returns-in-Err-clause-failures g c = opening_counted Opened c.in-Err.unopened (g.D.Disk.failures_of c.args.disk) (g.D.Disk.failures_of c.open.new.disk) c.in-Err.ensures.counts.failures

pub returns-in-Some-clause-failures : goal.returns-in-Some-clause-failures
returns-in-Some-clause-failures g c =
    uncounted _ _ (is_failure c.in-Some.fault)
    (wrong_is (λ fault. is_failure fault ≡ false) (has_pages c.args.job.spare c.topology.result.now) (nat_lt c.args.job.port c.topology.result.now.ports) c.in-Some.fault (sym c.in-Some.ensures) refl refl)
    c.in-Ok.ensures.counts.failures

pub returns-in_default-parts_of-clause-failures : goal.returns-in_default-parts_of-clause-failures
returns-in_default-parts_of-clause-failures g c = uncounted _ _ false refl (ap g.D.Disk.failures_of (c.into_disk.ensures ∙ c.store-store.ensures.disk) ∙ c.in-Ok.ensures.counts.failures)

pub returns-clause-failures : goal.returns-clause-failures
returns-clause-failures g c =
    subst (λ n. g.D.Disk.failures_of c.run_parts.result.0 ≡ failures_after (has_failed c.run_parts.result.1) n)
    (ap g.D.Disk.failures_of c.store-store.ensures.disk ∙ c.in-Ok.ensures.counts.failures) c.run_parts.ensures.failures
