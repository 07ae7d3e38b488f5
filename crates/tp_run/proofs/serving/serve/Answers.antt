use Rattle.std.proofs.Common.{◌<◌, ◌++◌, inl, refl, length, sym, ap, subst, ◌∙◌}
use Rattle.std.specs.Prelude.{IfOk, All}
use Rattle.tp_run.proofs.Lower.{Seat, Began, walked_nowhere, walked_then}
use Rattle.tp_run.specs.Failures.{is_failure, has_failed}
use Rattle.tp_run.specs.Input.{input_slips, rest_at}
use Rattle.tp_run.specs.Ran.{Settled}
use Rattle.tp_run.specs.Worked.{Worked}
use Rattle.tp_run.proofs.Failures.{counted, failures_then, uncounted}
use Rattle.tp_run.proofs.Faults.{behind_begun_of, behind_unrefused_of, offer_begun, offer_silent, offer_unfailed}
use Rattle.tp_run.proofs.HandedOver.{hands_in}
use Rattle.tp_run.proofs.Shown.{may_print_since}
use Rattle.tp_run.proofs.Worked.{none_yet}
use Rattle.tp_run.proofs.serving.serve.Goals as goal

pub returns-in-Err-clause-walks : goal.returns-in-Err-clause-walks
returns-in-Err-clause-walks g c k began = walked_nowhere c.args.flusher (c.known.ensures.disk k)

pub returns-clause-walks : goal.returns-clause-walks
returns-clause-walks g c k began =
    walked_then c.args.flusher c.work-flusher.result.0 c.finish-done.new.flusher (c.work-flusher.ensures.walks (c.finish-done.ensures.premise k) began)
    (c.finish-done.ensures.walks k (subst (Began g.J.Naming.formatted g.J.Naming.before) (sym c.work-flusher.ensures.process.opened) began))

pub returns-clause-settled : goal.returns-clause-settled
returns-clause-settled g c k began =
    let handed = c.in-Ok.ensures.receipt.slips ∙ ap (λ slips. slips ++ input_slips c.args.outset c.args.input.now) c.requires.host in
    let was = (g.O.Outlet.value c.args.out.now).taken in
    let now = (g.O.Outlet.value c.finish-done.new.out).taken in
    subst (λ slips. IfOk c.finish-done.result (Settled g.J.Naming.formatted g.J.Naming.start c.args.job c.args.outset slips was now c.finish-done.new.flusher.world.journal)) handed
    (c.finish-done.ensures.settled k (subst (Began g.J.Naming.formatted g.J.Naming.before) (sym c.work-flusher.ensures.process.opened) began))

pub returns-clause-shown : goal.returns-clause-shown
returns-clause-shown g c k began =
    let there = subst (Began g.J.Naming.formatted g.J.Naming.before) (sym c.work-flusher.ensures.process.opened) began in
    let worked = c.finish-done.ensures.premise k in
    may_print_since g.J.Naming.formatted c.args.flusher c.work-flusher.result.0 c.finish-done.new.flusher (c.known.ensures.reached (c.work-flusher.ensures.premise worked) began) (c.work-flusher.ensures.walks worked began)
    (c.finish-done.ensures.walks k there) c.args.outset.port c.args.outset.confirmed (g.O.Outlet.value c.args.out.now) (g.O.Outlet.value c.finish-done.new.out) c.finish-done.result (c.finish-done.ensures.shown k there)

pub returns-clause-rest : goal.returns-clause-rest
returns-clause-rest g c k began = c.finish-done.ensures.rest k (subst (Began g.J.Naming.formatted g.J.Naming.before) (sym c.work-flusher.ensures.process.opened) began)

-- ## What is handed in

pub returns-in-Err-clause-handed : goal.returns-in-Err-clause-handed
returns-in-Err-clause-handed g c k began = inl (c.in-Err.ensures.err.1 ∙ c.requires.key)

pub returns-clause-handed : goal.returns-clause-handed
returns-clause-handed g c k began =
    let start = g.J.Naming.formatted in
    hands_in start c.finish-done.new.flusher.world.journal c.args.outset c.args.input.now (g.O.Outlet.value c.args.out.now).taken (g.O.Outlet.value c.finish-done.new.out).taken c.args.key.now
    c.offer.new.key c.finish-done.new.key c.requires.key c.in-Ok.ensures.receipt.handed
    (c.finish-done.ensures.handed k (subst (Began start g.J.Naming.before) (sym c.work-flusher.ensures.process.opened) began))

-- ## Who made what

pub work-flusher-requires-clause-seats : goal.work-flusher-requires-clause-seats
work-flusher-requires-clause-seats g c κs within k d below =
    let seat = c.requires.seats k d below in
    let new = c.requires.idle k d below in
    (seat.0, none_yet g.J.Naming.start c.args.net.now.quantum seat.1 new.0, new.1)

pub finish-done-requires-clause-seats : goal.finish-done-requires-clause-seats
finish-done-requires-clause-seats g c =
    subst (λ quantum. All (λ (seat : Seat g.row.J.Denot g.J.Naming). Worked g.J.Naming.start quantum (length seat.answers) seat.slips) c.work-flusher.result.1.items) c.requires.quantum c.work-flusher.ensures.seats

-- ## Which faults come here, and how many calls of the device have failed

pub returns-in-Err-clause-shown : goal.returns-in-Err-clause-shown
returns-in-Err-clause-shown g c k began = inl (refl, offer_silent c.in-Err.fault c.in-Err.ensures.refused)

pub returns-in-Err-clause-failures : goal.returns-in-Err-clause-failures
returns-in-Err-clause-failures g c = uncounted _ _ (is_failure c.in-Err.fault) (offer_unfailed c.in-Err.fault c.in-Err.ensures.refused) refl

pub returns-clause-failures : goal.returns-clause-failures
returns-clause-failures g c =
    counted c.args.flusher c.finish-done.new.flusher (has_failed c.finish-done.result) c.requires.rests
    (failures_then c.args.flusher c.work-flusher.result.0 c.finish-done.new.flusher c.work-flusher.ensures.failures c.finish-done.ensures.failures) c.finish-done.ensures.ends

pub returns-in-Err-clause-begun : goal.returns-in-Err-clause-begun
returns-in-Err-clause-begun g c = offer_begun c.in-Err.fault c.in-Err.ensures.refused

pub returns-clause-begun : goal.returns-clause-begun
returns-clause-begun g c = behind_begun_of c.finish-done.result c.finish-done.ensures.behind

pub returns-clause-some : goal.returns-clause-some
returns-clause-some g c = behind_unrefused_of c.finish-done.result (0 < length (rest_at c.args.outset c.args.input.now)) c.finish-done.ensures.behind
