use Rattle.std.proofs.Common.{◌≡◌, ◌≤◌, ℕ, ◌++◌, length, inl, inr, Err, rules, refl, sym, ap, subst, ◌∙◌, arith}
use Rattle.std.specs.Prelude.{IfOk, flat_map, IfErr}
use Rattle.tp_run.proofs.Lower.{IfOk-weaker, Began, Flushing, Walked, position, ReceiptValue, walked_then, AreAll, Seat}
use Rattle.tp_run.specs.declared.fault.RunFault.TheVariants.{FlushFailed, LastFlushFailed}
use Rattle.tp_run.specs.Failures.{CountsFailures, has_failed}
use Rattle.tp_run.specs.Faults.{ComesBehind, IsSilent}
use Rattle.tp_run.specs.Prints.{MayBeSilent}
use Rattle.tp_run.specs.Ran.{Settled}
use Rattle.tp_run.specs.Rested.{LeadsToRest}
use Rattle.tp_run.specs.Shown.{LeadsToOutputs, MayPrint}
use Rattle.tp_run.proofs.Shown.{done_as, done_says, fault_of, fault_says, may_print, may_print_last, shows_on, walked_reached}
use Rattle.tp_run.proofs.Gathered.{accounted_for, all_settled, if_and}
use Rattle.tp_run.proofs.Failures.{failures_then}
use Rattle.tp_run.proofs.Faults.{flush_behind, flush_ends, flush_prints, flush_silent, last_said, late_behind, late_behind_of, late_said, late_unfailed, late_unfailed_of}
use Rattle.tp_run.proofs.Premise.{same_premise}
use Rattle.tp_run.proofs.Slips.{host_settled}
use Rattle.tp_run.proofs.serving.finish.Goals as goal

-- ## The premise at the start

pub returns-in_err-confirmed-clause-premise : goal.returns-in_err-confirmed-clause-premise
returns-in_err-confirmed-clause-premise g c k = c.flush_upto.ensures.premise (same_premise c.print.ensures.same k)

pub returns-in_err-_mark-clause-premise : goal.returns-in_err-_mark-clause-premise
returns-in_err-_mark-clause-premise g c k = c.flush_upto.ensures.premise (same_premise c.print.ensures.same (c.flush_upto-2.ensures.premise k))

pub returns-clause-premise : goal.returns-clause-premise
returns-clause-premise g c k = c.flush_upto.ensures.premise (same_premise c.print.ensures.same (c.flush_upto-2.ensures.premise (same_premise c.settle.ensures.same k)))

-- ## Each moment of the device

pub returns-in_err-confirmed-clause-walks : goal.returns-in_err-confirmed-clause-walks
returns-in_err-confirmed-clause-walks g c k began = subst (λ (f : Flushing). Walked c.args.flusher.now f) (sym c.print.ensures.same) (c.flush_upto.ensures.walks (same_premise c.print.ensures.same k) began)

pub returns-in_err-_mark-clause-walks : goal.returns-in_err-_mark-clause-walks
returns-in_err-_mark-clause-walks g c k began =
    let printed = c.flush_upto-2.ensures.premise k in
    let flushed = same_premise c.print.ensures.same printed in
    let there = subst (Began g.J.Naming.formatted g.J.Naming.before) (sym (ap (λ (f : Flushing). f.opened) c.print.ensures.same ∙ c.flush_upto.ensures.process.opened)) began in
    let first = subst (λ (f : Flushing). Walked c.args.flusher.now f) (sym c.print.ensures.same) (c.flush_upto.ensures.walks flushed began) in
    walked_then c.args.flusher.now c.print.new.flusher c.flush_upto-2.new.flusher first (c.flush_upto-2.ensures.walks k there)

pub returns-clause-walks : goal.returns-clause-walks
returns-clause-walks g c k began =
    let again = same_premise c.settle.ensures.same k in
    let printed = c.flush_upto-2.ensures.premise again in
    let flushed = same_premise c.print.ensures.same printed in
    let there = subst (Began g.J.Naming.formatted g.J.Naming.before) (sym (ap (λ (f : Flushing). f.opened) c.print.ensures.same ∙ c.flush_upto.ensures.process.opened)) began in
    let first = subst (λ (f : Flushing). Walked c.args.flusher.now f) (sym c.print.ensures.same) (c.flush_upto.ensures.walks flushed began) in
    subst (λ (f : Flushing). Walked c.args.flusher.now f) (sym c.settle.ensures.same)
    (walked_then c.args.flusher.now c.print.new.flusher c.flush_upto-2.new.flusher first (c.flush_upto-2.ensures.walks again there))

-- ## What is printed

pub returns-in_err-mark-clause-shown : goal.returns-in_err-mark-clause-shown
returns-in_err-mark-clause-shown g c k began =
    let fault = c.in_err-mark.field-0.0 in
    let is : c.from_residual.result ≡ Err fault = search rules in
    inl (refl, subst MayBeSilent (sym is) (flush_silent fault c.flush_upto.new.flusher.world.at c.in_err-mark.ensures.refused))

pub returns-in_err-confirmed-clause-shown : goal.returns-in_err-confirmed-clause-shown
returns-in_err-confirmed-clause-shown g c k began =
    let flushed = same_premise c.print.ensures.same k in
    let start = g.J.Naming.formatted in
    let there = subst (Began start g.J.Naming.before) (sym c.flush_upto.ensures.process.opened) began in
    let was = g.O.Outlet.value c.args.out.now in
    let now = g.O.Outlet.value c.print.new.out in
    let fault = c.in_err-confirmed.field-0.0 in
    let is : c.from_residual-in_err-confirmed.result ≡ Err fault = search rules in
    subst (MayPrint start c.args.flusher.now c.print.new.flusher c.args.outset.port c.args.outset.confirmed was now) (sym is)
    (subst (λ (f : Flushing). MayPrint start c.args.flusher.now f c.args.outset.port c.args.outset.confirmed was now (fault_of ℕ fault)) (sym c.print.ensures.same)
    (may_print_last start c.args.flusher.now c.flush_upto.new.flusher (c.known.ensures.reached (c.flush_upto.ensures.premise flushed) began) (c.flush_upto.ensures.walks flushed began) c.args.outset.port c.args.outset.confirmed was now
    (fault_of ReceiptValue fault) (fault_of ℕ fault) (fault_says ReceiptValue ℕ fault) (c.in_err-confirmed.ensures.shown k there)))

pub returns-in_err-_mark-clause-shown : goal.returns-in_err-_mark-clause-shown
returns-in_err-_mark-clause-shown g c k began =
    let printed = c.flush_upto-2.ensures.premise k in
    let flushed = same_premise c.print.ensures.same printed in
    let start = g.J.Naming.formatted in
    let there = subst (Began start g.J.Naming.before) (sym c.flush_upto.ensures.process.opened) began in
    let later = subst (λ (f : Flushing). Began start g.J.Naming.before f.opened) (sym c.print.ensures.same) there in
    let walked = subst (λ (f : Flushing). Walked f c.flush_upto-2.new.flusher) c.print.ensures.same (c.flush_upto-2.ensures.walks k later) in
    let fault = c.in_err-_mark.field-0.0 in
    let is : c.from_residual-in_err-_mark.result ≡ Err fault = search rules in
    subst (MayPrint start c.args.flusher.now c.flush_upto-2.new.flusher c.args.outset.port c.args.outset.confirmed (g.O.Outlet.value c.args.out.now) (g.O.Outlet.value c.print.new.out)) (sym is)
    (may_print start c.args.flusher.now c.flush_upto.new.flusher c.flush_upto-2.new.flusher (c.known.ensures.reached (c.flush_upto.ensures.premise flushed) began) (c.flush_upto.ensures.walks flushed began) walked c.args.outset.port
    c.args.outset.confirmed (g.O.Outlet.value c.args.out.now) (g.O.Outlet.value c.print.new.out) (done_as c.in_ok-confirmed.confirmed) (fault_of ℕ fault)
    (done_says c.in_ok-confirmed.confirmed (fault_of ℕ fault) (flush_prints fault c.flush_upto-2.new.flusher.world.at c.in_err-_mark.ensures.refused)) (c.in_ok-confirmed.ensures.shown printed there))

pub returns-clause-shown : goal.returns-clause-shown
returns-clause-shown g c k began =
    let again = same_premise c.settle.ensures.same k in
    let printed = c.flush_upto-2.ensures.premise again in
    let flushed = same_premise c.print.ensures.same printed in
    let start = g.J.Naming.formatted in
    let there = subst (Began start g.J.Naming.before) (sym c.flush_upto.ensures.process.opened) began in
    let later = subst (λ (f : Flushing). Began start g.J.Naming.before f.opened) (sym c.print.ensures.same) there in
    let walked = subst (λ (f : Flushing). Walked f c.flush_upto-2.new.flusher) c.print.ensures.same (c.flush_upto-2.ensures.walks again later) in
    let was = g.O.Outlet.value c.args.out.now in
    let now = g.O.Outlet.value c.print.new.out in
    subst (λ (f : Flushing). MayPrint start c.args.flusher.now f c.args.outset.port c.args.outset.confirmed was now c.settle.result) (sym c.settle.ensures.same)
    (may_print start c.args.flusher.now c.flush_upto.new.flusher c.flush_upto-2.new.flusher (c.known.ensures.reached (c.flush_upto.ensures.premise flushed) began) (c.flush_upto.ensures.walks flushed began) walked c.args.outset.port
    c.args.outset.confirmed was now (done_as c.in_ok-confirmed.confirmed) c.settle.result (done_says c.in_ok-confirmed.confirmed c.settle.result c.settle.ensures.told)
    (c.in_ok-confirmed.ensures.shown printed there))

-- ## What is settled

pub returns-clause-settled : goal.returns-clause-settled
returns-clause-settled g c k began =
    let again = same_premise c.settle.ensures.same k in
    let printed = c.flush_upto-2.ensures.premise again in
    let flushed = same_premise c.print.ensures.same printed in
    let start = g.J.Naming.formatted in
    let was = (g.O.Outlet.value c.args.out.now).taken in
    let now = (g.O.Outlet.value c.print.new.out).taken in
    let one = c.flush_upto.new.flusher in
    let two = c.flush_upto-2.new.flusher in
    let O = c.in_ok-confirmed.ensures.receipt in
    let there = subst (Began start g.J.Naming.before) (sym c.flush_upto.ensures.process.opened) began in
    let later = subst (λ (f : Flushing). Began start g.J.Naming.before f.opened) (sym c.print.ensures.same) there in
    let walked = subst (λ (f : Flushing). Walked f two) c.print.ensures.same (c.flush_upto-2.ensures.walks again later) in
    let reached = walked_reached start c.args.flusher.now one (c.known.ensures.reached (c.flush_upto.ensures.premise flushed) began) (c.flush_upto.ensures.walks flushed began) in
    let shows = (shows_on start one two reached walked c.args.outset.port c.args.outset.confirmed O.confirmed.first O.printed (O.are printed there)).1 in
    let host = c.print.new.seat in
    let next = c.number-next.result in
    let S = c.settle.ensures in
    let last = subst (Began start g.J.Naming.before) (sym c.flush_upto-2.ensures.process.opened) later in
    subst (λ (f : Flushing). IfOk c.settle.result (Settled start g.J.Naming.start c.args.job c.args.outset c.args.host was now f.world.journal)) (sym S.same)
    (all_settled c.settle.result next _ _ S.next (if_and c.settle.result _ _ (S.all k last) S.turns)
    (λ all. host_settled start g.J.Naming.start c.args.job c.args.outset _ was now two.world.journal next c.args.host host c.args.key.now c.print.new.key c.in_ok-confirmed.confirmed O shows c.number-next.ensures (S.stand k last)
    (accounted_for g.J.Naming.start c.args.job two.world.journal c.args.outset.next next (λ (seat : Seat g.row.J.Denot g.J.Naming). length seat.answers) (λ (seat : Seat g.row.J.Denot g.J.Naming). seat.slips) c.args.seats.items host
    (sym c.args.seats.ok.0 ∙ c.requires.count) all.1 c.requires.seats (subst (λ n. AreAll n next two.world.journal (host ++ flat_map (λ (seat : Seat g.row.J.Denot g.J.Naming). seat.slips) c.args.seats.items)) (sym c.requires.first) all.0))))

pub returns-clause-rest : goal.returns-clause-rest
returns-clause-rest g c k began =
    let again = same_premise c.settle.ensures.same k in
    let start = g.J.Naming.formatted in
    let there = subst (Began start g.J.Naming.before) (sym c.flush_upto.ensures.process.opened) began in
    let later = subst (λ (f : Flushing). Began start g.J.Naming.before f.opened) (sym c.print.ensures.same) there in
    let last = subst (Began start g.J.Naming.before) (sym c.flush_upto-2.ensures.process.opened) later in
    subst (λ (f : Flushing). IfOk c.settle.result (λ next. LeadsToRest start f.world.journal next c.settle.new.rest)) (sym c.settle.ensures.same) (c.settle.ensures.rest k last)

-- ## What is handed in

pub returns-in_err-mark-clause-handed : goal.returns-in_err-mark-clause-handed
returns-in_err-mark-clause-handed g c k began = inl refl

pub returns-in_err-confirmed-clause-handed : goal.returns-in_err-confirmed-clause-handed
returns-in_err-confirmed-clause-handed g c k began = inl c.in_err-confirmed.ensures.err.1

pub returns-in_err-_mark-clause-handed : goal.returns-in_err-_mark-clause-handed
returns-in_err-_mark-clause-handed g c k began =
    let printed = c.flush_upto-2.ensures.premise k in
    let flushed = same_premise c.print.ensures.same printed in
    let start = g.J.Naming.formatted in
    let one = c.flush_upto.new.flusher in
    let two = c.flush_upto-2.new.flusher in
    let O = c.in_ok-confirmed.ensures.receipt in
    let there = subst (Began start g.J.Naming.before) (sym c.flush_upto.ensures.process.opened) began in
    let later = subst (λ (f : Flushing). Began start g.J.Naming.before f.opened) (sym c.print.ensures.same) there in
    let walked = subst (λ (f : Flushing). Walked f two) c.print.ensures.same (c.flush_upto-2.ensures.walks k later) in
    let reached = walked_reached start c.args.flusher.now one (c.known.ensures.reached (c.flush_upto.ensures.premise flushed) began) (c.flush_upto.ensures.walks flushed began) in
    let shows = (shows_on start one two reached walked c.args.outset.port c.args.outset.confirmed O.confirmed.first O.printed (O.are printed there)).1 in
    inr (record { printed = O.printed; taken = O.appended; number = O.confirmed.first; shows = shows; handed = O.handed })

pub returns-clause-handed : goal.returns-clause-handed
returns-clause-handed g c k began =
    let again = same_premise c.settle.ensures.same k in
    let printed = c.flush_upto-2.ensures.premise again in
    let flushed = same_premise c.print.ensures.same printed in
    let start = g.J.Naming.formatted in
    let one = c.flush_upto.new.flusher in
    let two = c.flush_upto-2.new.flusher in
    let O = c.in_ok-confirmed.ensures.receipt in
    let there = subst (Began start g.J.Naming.before) (sym c.flush_upto.ensures.process.opened) began in
    let later = subst (λ (f : Flushing). Began start g.J.Naming.before f.opened) (sym c.print.ensures.same) there in
    let walked = subst (λ (f : Flushing). Walked f two) c.print.ensures.same (c.flush_upto-2.ensures.walks again later) in
    let reached = walked_reached start c.args.flusher.now one (c.known.ensures.reached (c.flush_upto.ensures.premise flushed) began) (c.flush_upto.ensures.walks flushed began) in
    let shows = (shows_on start one two reached walked c.args.outset.port c.args.outset.confirmed O.confirmed.first O.printed (O.are printed there)).1 in
    inr (record {
      printed = O.printed;
      taken = O.appended;
      number = O.confirmed.first;
      shows = subst (λ (f : Flushing). LeadsToOutputs start f.world.journal O.confirmed.first c.args.outset.port c.args.outset.confirmed O.printed) (sym c.settle.ensures.same) shows;
      handed = O.handed;
    })

-- ## How it ended

pub returns-clause-stored : goal.returns-clause-stored
returns-clause-stored g c =
    let next = c.number-next.result in
    let two = c.flush_upto-2.new.flusher in
    let stored = c.in_ok-_mark.ensures.stored in
    let here = stored.0 in
    let up = stored.1 in
    let low : next ≤ two.world.mark = omega (arith, here, up) in
    subst (λ (f : Flushing). IfOk c.settle.result (λ answer. answer ≤ f.world.mark)) (sym c.settle.ensures.same)
    (IfOk-weaker c.settle.result (λ answer. answer ≡ next) (λ answer. answer ≤ two.world.mark) (λ answer is. subst (λ n. n ≤ two.world.mark) (sym is) low) c.settle.ensures.next)

pub returns-in_err-_mark-clause-silent : goal.returns-in_err-_mark-clause-silent
returns-in_err-_mark-clause-silent g c silent =
    let fault = c.in_err-_mark.field-0.0 in
    let is : c.from_residual-in_err-_mark.result ≡ Err fault = search rules in
    absurd (last_said fault c.flush_upto-2.new.flusher.world.at c.in_err-_mark.ensures.refused (subst IsSilent is silent))

pub returns-clause-silent : goal.returns-clause-silent
returns-clause-silent g c silent = absurd (late_said c.settle.result c.settle.ensures.late silent)

-- ## How many calls of the device have failed

pub returns-in_err-confirmed-clause-failures : goal.returns-in_err-confirmed-clause-failures
returns-in_err-confirmed-clause-failures g c = subst (λ (f : Flushing). CountsFailures c.args.flusher.now f) (sym c.print.ensures.same) c.flush_upto.ensures.failures

pub returns-in_err-_mark-clause-failures : goal.returns-in_err-_mark-clause-failures
returns-in_err-_mark-clause-failures g c =
    failures_then c.args.flusher.now c.print.new.flusher c.flush_upto-2.new.flusher (subst (λ (f : Flushing). CountsFailures c.args.flusher.now f) (sym c.print.ensures.same) c.flush_upto.ensures.failures)
    c.flush_upto-2.ensures.failures

pub returns-clause-failures : goal.returns-clause-failures
returns-clause-failures g c =
    subst (λ (f : Flushing). CountsFailures c.args.flusher.now f) (sym c.settle.ensures.same)
    (failures_then c.args.flusher.now c.print.new.flusher c.flush_upto-2.new.flusher (subst (λ (f : Flushing). CountsFailures c.args.flusher.now f) (sym c.print.ensures.same) c.flush_upto.ensures.failures)
    c.flush_upto-2.ensures.failures)

pub returns-in_err-mark-clause-ends : goal.returns-in_err-mark-clause-ends
returns-in_err-mark-clause-ends g c =
    let fault = c.in_err-mark.field-0.0 in
    let is : c.from_residual.result ≡ Err fault = search rules in
    subst (λ r. c.flush_upto.new.flusher.world.at ≡ position (has_failed r)) (sym is) (flush_ends FlushFailed fault c.flush_upto.new.flusher.world.at refl c.in_err-mark.ensures.refused)

pub returns-in_err-confirmed-clause-ends : goal.returns-in_err-confirmed-clause-ends
returns-in_err-confirmed-clause-ends g c =
    let fault = c.in_err-confirmed.field-0.0 in
    let is : c.from_residual-in_err-confirmed.result ≡ Err fault = search rules in
    subst (λ r. c.print.new.flusher.world.at ≡ position (has_failed r)) (sym is)
    (ap (λ (f : Flushing). f.world.at) c.print.ensures.same ∙ c.in_ok-mark.ensures.rests ∙ ap position (sym (late_unfailed fault c.in_err-confirmed.ensures.late)))

pub returns-in_err-_mark-clause-ends : goal.returns-in_err-_mark-clause-ends
returns-in_err-_mark-clause-ends g c =
    let fault = c.in_err-_mark.field-0.0 in
    let is : c.from_residual-in_err-_mark.result ≡ Err fault = search rules in
    subst (λ r. c.flush_upto-2.new.flusher.world.at ≡ position (has_failed r)) (sym is) (flush_ends LastFlushFailed fault c.flush_upto-2.new.flusher.world.at refl c.in_err-_mark.ensures.refused)

pub returns-clause-ends : goal.returns-clause-ends
returns-clause-ends g c =
    ap (λ (f : Flushing). f.world.at) c.settle.ensures.same ∙ c.in_ok-_mark.ensures.rests ∙ ap position (sym (late_unfailed_of c.settle.result c.settle.ensures.late))

-- ## Which faults come here

pub returns-in_err-mark-clause-behind : goal.returns-in_err-mark-clause-behind
returns-in_err-mark-clause-behind g c =
    let fault = c.in_err-mark.field-0.0 in
    let is : c.from_residual.result ≡ Err fault = search rules in
    subst (λ r. IfErr r ComesBehind) (sym is) (flush_behind FlushFailed fault c.flush_upto.new.flusher.world.at tt c.in_err-mark.ensures.refused)

pub returns-in_err-confirmed-clause-behind : goal.returns-in_err-confirmed-clause-behind
returns-in_err-confirmed-clause-behind g c =
    let fault = c.in_err-confirmed.field-0.0 in
    let is : c.from_residual-in_err-confirmed.result ≡ Err fault = search rules in
    subst (λ r. IfErr r ComesBehind) (sym is) (late_behind fault c.in_err-confirmed.ensures.late)

pub returns-in_err-_mark-clause-behind : goal.returns-in_err-_mark-clause-behind
returns-in_err-_mark-clause-behind g c =
    let fault = c.in_err-_mark.field-0.0 in
    let is : c.from_residual-in_err-_mark.result ≡ Err fault = search rules in
    subst (λ r. IfErr r ComesBehind) (sym is) (flush_behind LastFlushFailed fault c.flush_upto-2.new.flusher.world.at tt c.in_err-_mark.ensures.refused)

pub returns-clause-behind : goal.returns-clause-behind
returns-clause-behind g c = late_behind_of c.settle.result c.settle.ensures.late
