use Rattle.std.proofs.Common.{◌≡◌, Ok, Err, Some, false, refl, ap, sym, subst, ◌∙◌, []}
use Rattle.std.specs.Prelude.{All, IfOk}
use Rattle.tp_run.proofs.Lower.{AreTrue, State, held_of, verdict, World, reopened, Began, NodeState, Network}
use Rattle.tp_run.specs.declared.fault.RunFault.TheVariants.{Memory}
use Rattle.tp_run.specs.HandedOver.{HandedOver}
use Rattle.tp_run.specs.Input.{input_slips}
use Rattle.tp_run.specs.Outset.{outset_in}
use Rattle.tp_run.specs.declared.outset.Outset.{Outset}
use Rattle.tp_run.specs.Ran.{RanInto, Settled}
use Rattle.tp_run.specs.Shown.{MayPrint}
use Rattle.tp_run.specs.Failures.{failures_after, has_failed}
use Rattle.tp_run.proofs.Failures.{uncounted}
use Rattle.tp_run.proofs.Rested.{served_rests}
use Rattle.tp_run.proofs.Runs.{ran_silent, served_ran, still_ran}
use Rattle.tp_run.specs.Rested.{RestsAt}
use Rattle.tp_run.proofs.running.run_parts.Goals as goal

pub over-flusher-requires-clause-bound : goal.over-flusher-requires-clause-bound
over-flusher-requires-clause-bound g c = sym c.requires.names.room_is ∙ c.requires.bound

pub over-flusher-requires-clause-first : goal.over-flusher-requires-clause-first
over-flusher-requires-clause-first g c = sym c.requires.names.first_is ∙ c.requires.stands.first

pub returns-clause-premise : goal.returns-clause-premise
returns-clause-premise g c k = subst AreTrue c.over-flusher.ensures.device.1 (c.use_up-flusher.ensures.premise (subst AreTrue c.into_disk-2.ensures.reads k))

pub returns-in_default-clause-called : goal.returns-in_default-clause-called
returns-in_default-clause-called g c k began =
    let out = g.O.Outlet.value c.args.out.now in
    let state = g.D.Disk.state c.args.store.disk in
    subst (λ d. RanInto g.J.Naming.formatted c.args.job c.args.input.now out out (Err Memory) state (g.D.Disk.state d)) (sym c.into_disk.ensures)
    (ran_silent g.J.Naming.formatted c.args.job c.args.input.now out (Err Memory) state state (still_ran g.J.Naming.formatted c.args.job c.args.input.now out.taken Memory state tt))

pub returns-clause-called : goal.returns-clause-called
returns-clause-called g c k began =
    let used = subst AreTrue c.into_disk-2.ensures.reads k in
    let start = g.J.Naming.formatted in
    let job = c.args.job in
    let input = c.args.input.now in
    let was = g.O.Outlet.value c.args.out.now in
    let now = g.O.Outlet.value c.use_up-flusher.new.out in
    let opened = c.args.opened.value in
    let old = c.over-flusher.result in
    let new = c.use_up-flusher.result.0 in
    let done = c.use_up-flusher.result.1 in
    let before = g.J.Naming.before in
    let first : Began start before old.opened = subst (Began start before) (sym c.over-flusher.ensures.opened) began in
    let device = sym c.over-flusher.ensures.device.0 in
    let there : Began start before old.state.now.bytes = subst (λ (s : State). Began start before s.now.bytes) device began in
    let world : old.world ≡ reopened before old.state.now.bytes (held_of opened) opened.now =
    subst (λ (s : State). old.world ≡ reopened before s.now.bytes (held_of opened) opened.now) device c.over-flusher.ensures.world in
    let reads : verdict old.state.now.bytes ≡ Ok opened = subst (λ (s : State). verdict s.now.bytes ≡ Ok opened) device (c.requires.read (subst AreTrue c.over-flusher.ensures.device.1 (c.use_up-flusher.ensures.premise used))) in
    let settled =
    subst (λ (s : Network NodeState). IfOk done (Settled start s job (outset_in opened job.port) (input_slips (outset_in opened job.port) input) was.taken now.taken new.world.journal)) c.requires.network
    (subst (λ u. IfOk done (Settled start g.J.Naming.start job u (input_slips u input) was.taken now.taken new.world.journal)) c.requires.outset (c.use_up-flusher.ensures.settled used first)) in
    let shown = subst (λ (u : Outset). MayPrint start old new u.port u.confirmed was now done) c.requires.outset (c.use_up-flusher.ensures.shown used first) in
    let handed = subst (λ (u : Outset). HandedOver start new.world.journal u input was.taken now.taken) c.requires.outset (c.use_up-flusher.ensures.handed used first) in
    let ran : RanInto start job input was now done old.state new.state =
    served_ran c.stored_slips_are_recovered.ensures start before opened job input was now old new done there reads world (c.use_up-flusher.ensures.walks used first) c.use_up-flusher.ensures.stored settled shown handed in
    subst (λ s. RanInto start job input was now done (g.D.Disk.state c.args.store.disk) s) (sym c.into_disk-2.ensures.state) (subst (λ s. RanInto start job input was now done s new.state) c.over-flusher.ensures.device.0 ran)

-- ## What is left to do

pub returns-clause-rest : goal.returns-clause-rest
returns-clause-rest g c k began =
    let used = subst AreTrue c.into_disk-2.ensures.reads k in
    let start = g.J.Naming.formatted in
    let opened = c.args.opened.value in
    let old = c.over-flusher.result in
    let new = c.use_up-flusher.result.0 in
    let done = c.use_up-flusher.result.1 in
    let before = g.J.Naming.before in
    let rest = c.use_up-flusher.result.2 in
    let first : Began start before old.opened = subst (Began start before) (sym c.over-flusher.ensures.opened) began in
    let device = sym c.over-flusher.ensures.device.0 in
    let there : Began start before old.state.now.bytes = subst (λ (s : State). Began start before s.now.bytes) device began in
    let world : old.world ≡ reopened before old.state.now.bytes (held_of opened) opened.now =
    subst (λ (s : State). old.world ≡ reopened before s.now.bytes (held_of opened) opened.now) device c.over-flusher.ensures.world in
    let reads : verdict old.state.now.bytes ≡ Ok opened = subst (λ (s : State). verdict s.now.bytes ≡ Ok opened) device (c.requires.read (subst AreTrue c.over-flusher.ensures.device.1 (c.use_up-flusher.ensures.premise used))) in
    let rests = served_rests start before opened old new rest done there reads world (c.use_up-flusher.ensures.walks used first) c.use_up-flusher.ensures.stored (c.use_up-flusher.ensures.rest used first) in
    subst (λ s. IfOk done (λ next. RestsAt start rest next (g.D.Disk.state c.args.store.disk) s)) (sym c.into_disk-2.ensures.state)
    (subst (λ s. IfOk done (λ next. RestsAt start rest next s new.state)) c.over-flusher.ensures.device.0 rests)

pub use_up-flusher-requires-clause-seats : goal.use_up-flusher-requires-clause-seats
use_up-flusher-requires-clause-seats g c κs within =
    subst (λ queue. All (λ seat. (seat.hand.of ≡ Some queue) × (seat.slips ≡ [])) c.in-Ok.seats.items) (sym c.seat-host.ensures.same.1) c.in-Ok.ensures.seats

pub use_up-flusher-requires-clause-idle : goal.use_up-flusher-requires-clause-idle
use_up-flusher-requires-clause-idle g c κs within = c.in-Ok.ensures.idle

pub use_up-flusher-requires-clause-first : goal.use_up-flusher-requires-clause-first
use_up-flusher-requires-clause-first g c κs within = ap (λ (u : Outset). u.next) c.requires.outset ∙ sym c.requires.stands.first ∙ c.requires.names.first_is

-- ## How many calls of the device have failed

pub use_up-flusher-requires-clause-rests : goal.use_up-flusher-requires-clause-rests
use_up-flusher-requires-clause-rests g c κs within = ap (λ (w : World NodeState). w.at) c.over-flusher.ensures.world

pub returns-in_default-clause-failures : goal.returns-in_default-clause-failures
returns-in_default-clause-failures g c = uncounted _ _ false refl (ap g.D.Disk.failures_of c.into_disk.ensures)

pub returns-clause-failures : goal.returns-clause-failures
returns-clause-failures g c =
    c.into_disk-2.ensures.failures ∙ subst (λ n. c.use_up-flusher.result.0.failures ≡ failures_after (has_failed c.use_up-flusher.result.1) n) c.over-flusher.ensures.device.3 c.use_up-flusher.ensures.failures
