use Rattle.std.proofs.Common.{◌≡◌, [], map, drop, Ok, Err, Some, false, refl, sym, ap, subst, ◌∙◌}
use Rattle.std.specs.Prelude.{IfOk}
use Rattle.tp_stream.proofs.Lower.{AreTrue, NodeState, State, held_of, next_of, verdict, World, reopened, node_count, Began, Flushing, given_input, number_is}
use Rattle.tp_stream.specs.Accounted.{Accounted, MadeByTurns, idle}
use Rattle.tp_stream.specs.Confirmed.{AreConfirmsPut}
use Rattle.tp_stream.specs.Failures.{answer_failed, calls_failed}
use Rattle.tp_stream.specs.Looks.{HaveLooked}
use Rattle.tp_stream.specs.Noted.{StepsNoted}
use Rattle.tp_stream.specs.Put.{ServedInto}
use Rattle.tp_stream.specs.Quiet.{IsWhyEnded, LeavesNothingToDo}
use Rattle.tp_stream.specs.HandedFrom.{AreHandedFrom}
use Rattle.tp_stream.specs.Standing.{accepted_opened}
use Rattle.tp_stream.specs.Teams.{team_of}
use Rattle.tp_stream.specs.Told.{ToldLater}
use Rattle.tp_stream.specs.declared.task.Task.{Task}
use Rattle.tp_stream.proofs.Quiets.{all_asked, all_left}
use Rattle.tp_stream.specs.declared.fault.StreamFault.TheVariants.{Memory}
use Rattle.tp_stream.proofs.Failures.{uncounted}
use Rattle.tp_stream.proofs.HandedFrom.{front_from, handed_as, handed_none}
use Rattle.tp_stream.proofs.Notices.{later_none}
use Rattle.tp_stream.proofs.Noting.{front_confirms}
use Rattle.tp_stream.proofs.Runs.{served, unserved}
use Rattle.tp_stream.proofs.Started.{accepted_made, nodes_of, ports_of, wires_of}
use Rattle.tp_stream.proofs.streaming.stream_parts.Goals as goal

pub returns-clause-premise : goal.returns-clause-premise
returns-clause-premise g c k =
    let new = subst (λ (f : Flushing). AreTrue f.reads) c.settle_host_under.ensures.same.0 (subst AreTrue c.into_disk-2.ensures.reads k) in
    subst AreTrue c.over-flusher.ensures.device.1 (c.serve-done.ensures.served.premise new)

pub returns-clause-streamed : goal.returns-clause-streamed
returns-clause-streamed g c k began =
    let start = g.J.Naming.formatted in
    let before = g.J.Naming.before in
    let o = c.args.device.opened.value in
    let old = c.over-flusher.result in
    let new = c.serve-done.new.flusher in
    let done = c.serve-done.result.0 in
    let settled : AreTrue c.settle_host_under.new.self.reads = subst AreTrue c.into_disk-2.ensures.reads k in
    let later_true : AreTrue new.reads = subst (λ (f : Flushing). AreTrue f.reads) c.settle_host_under.ensures.same.0 settled in
    let first_true : AreTrue old.reads = c.serve-done.ensures.served.premise later_true in
    let device = sym c.over-flusher.ensures.device.0 in
    let first : Began start before old.opened = subst (Began start before) (sym c.over-flusher.ensures.opened) began in
    let there : Began start before old.state.now.bytes = subst (λ (s : State). Began start before s.now.bytes) device began in
    let reads : verdict old.state.now.bytes ≡ Ok o = subst (λ (s : State). verdict s.now.bytes ≡ Ok o) device (c.requires.read (subst AreTrue c.over-flusher.ensures.device.1 first_true)) in
    let world : old.world ≡ reopened before old.state.now.bytes (held_of o) o.now = subst (λ (s : State). old.world ≡ reopened before s.now.bytes (held_of o) o.now) device c.over-flusher.ensures.world in
    let was = c.args.streams.now.outputs.items in
    let now = c.serve-done.new.streams.outputs.items in
    let S = c.serve-done.ensures in
    let inputs = map (λ i. given_input i.port (g.I.Source.input i.source)) c.args.streams.now.inputs.items in
    let later : Began start before new.opened = subst (Began start before) (sym S.served.process.opened) first in
    let none : AreHandedFrom inputs g.J.Naming.accepted c.new-going.result.host =
    subst (AreHandedFrom inputs g.J.Naming.accepted) (sym (c.new-going.ensures.seats.2 ∙ c.in-Ok.ensures.host)) (handed_none inputs g.J.Naming.accepted) in
    let fed : AreHandedFrom inputs g.J.Naming.accepted (drop g.J.Naming.first new.world.journal) =
    front_from inputs g.J.Naming.accepted c.serve-done.result.1 (drop g.J.Naming.first new.world.journal) (c.settle_host_under.ensures.handed settled later) (S.fed.fed none) in
    let confirms : AreConfirmsPut now (drop g.J.Naming.first new.world.journal) =
    front_confirms now c.serve-done.result.1 (drop g.J.Naming.first new.world.journal) (c.settle_host_under.ensures.handed settled later) S.confirms in
    let first_is : g.J.Naming.first ≡ next_of o = sym c.requires.names.first_is ∙ c.requires.stands.first in
    let state = c.into_disk-2.ensures.state ∙ ap (λ (f : Flushing). f.state) c.settle_host_under.ensures.same.0 in
    subst (λ s. ServedInto start o.cut (next_of o) inputs (accepted_opened o) done was now (g.D.Disk.state c.args.device.store.disk) s) (sym state)
    (subst (λ s. ServedInto start o.cut (next_of o) inputs (accepted_opened o) done was now s new.state) c.over-flusher.ensures.device.0
    (served start o.cut before o old new done there reads world (c.known.ensures.reached first_true first) (S.served.walks later_true first) S.stored (S.last later_true first) was now (S.served.put later_true first) (S.put later_true first) inputs (accepted_opened o)
    (handed_as inputs g.J.Naming.accepted (accepted_opened o) (drop (next_of o) new.world.journal) (λ p. sym (c.requires.names.accepted_is p) ∙ accepted_made o c.args.device.parts.book p c.requires.stands.book)
    (subst (λ n. AreHandedFrom inputs g.J.Naming.accepted (drop n new.world.journal)) first_is fed))
    (subst (λ n. AreConfirmsPut now (drop n new.world.journal)) first_is confirms)
    (subst (λ n. IfOk done (λ ended. Accounted o.cut new.world.journal n ended.next)) first_is
    (subst (λ net. IfOk done (λ ended. Accounted net new.world.journal g.J.Naming.first ended.next)) c.requires.network (S.accounted later_true first)))))

pub returns-clause-why : goal.returns-clause-why
returns-clause-why g c =
    all_asked g.J.Naming.start c.args.task c.serve-done.result.0
    (subst (λ task. IfOk c.serve-done.result.0 (λ ended. IsWhyEnded g.J.Naming.start task ended.why)) c.pace_of-pace.ensures.task c.serve-done.ensures.why)

pub returns-clause-looks : goal.returns-clause-looks
returns-clause-looks g c =
    let old = g.P.Stop.answers c.args.stop.now in
    let new = g.P.Stop.answers c.serve-done.new.stop in
    subst (λ task. IfOk c.serve-done.result.0 (λ ended. HaveLooked task old new (Some ended.why))) c.pace_of-pace.ensures.task c.serve-done.ensures.looks

pub returns-clause-told : goal.returns-clause-told
returns-clause-told g c =
    let many = nodes_of c.args.device.opened.value c.args.device.parts.book g.J.Naming.start c.requires.stands.book c.requires.cut c.requires.names.count_is ∙ ap node_count (sym c.requires.topology) in
    subst (λ n. ToldLater n (g.L.Listener.told c.args.listener.now) (g.L.Listener.told c.serve-done.new.listener)) many c.serve-done.ensures.told

pub returns-clause-quiet : goal.returns-clause-quiet
returns-clause-quiet g c =
    let o = c.args.device.opened.value in
    let b = c.args.device.parts.book in
    let start = g.J.Naming.start in
    let N = c.requires.names in
    let done = c.serve-done.result.0 in
    subst (λ t. IfOk done (λ ended. LeavesNothingToDo t ended.why)) (sym c.requires.topology)
    (all_left start o.head.topology c.pace_of-pace.result.task done (nodes_of o b start c.requires.stands.book c.requires.cut N.count_is)
    (ports_of o b start c.requires.stands.ports N.ports_are) (wires_of o b start c.requires.stands.book c.requires.cut N.wires_are) c.serve-done.ensures.why)

pub returns-clause-failures : goal.returns-clause-failures
returns-clause-failures g c =
    let done = c.serve-done.result.0 in
    let F = c.serve-done.ensures.served.failures (ap (λ (w : World NodeState). w.at) c.over-flusher.ensures.world) in
    c.into_disk-2.ensures.failures ∙ ap (λ (f : Flushing). f.failures) c.settle_host_under.ensures.same.0 ∙ F.calls ∙ ap (λ n. calls_failed (answer_failed done) n) c.over-flusher.ensures.device.3

pub serve-done-requires-clause-seats : goal.serve-done-requires-clause-seats
serve-done-requires-clause-seats g c κs within k d there =
    (c.in-Ok.ensures.seats k d there).0 ∙ ap Some (sym (c.seat-steps.ensures.same.1 ∙ c.seat-seat.ensures.same.1))

pub serve-done-requires-clause-made : goal.serve-done-requires-clause-made
serve-done-requires-clause-made g c κs within k d there = subst (MadeByTurns g.J.Naming.start) (sym (c.in-Ok.ensures.seats k d there).1) idle

pub serve-done-requires-clause-noted : goal.serve-done-requires-clause-noted
serve-done-requires-clause-noted g c κs within =
    let G = c.new-going.ensures.seats in
    record {
      made = subst (MadeByTurns g.J.Naming.start) (sym (G.0 ∙ c.seat-seat.ensures.empty)) idle;
      noted =
          subst (λ host. StepsNoted c.args.streams.now.outputs.items c.new-going.result.steps host) (sym (G.2 ∙ c.in-Ok.ensures.host))
          (subst (λ steps. StepsNoted c.args.streams.now.outputs.items steps []) (sym (G.1 ∙ c.seat-steps.ensures.empty)) (record { slips = refl; confirms = tt }));
    }

pub serve-done-requires-clause-first : goal.serve-done-requires-clause-first
serve-done-requires-clause-first g c κs within =
    let o = c.args.device.opened.value in
    ap (λ (w : World NodeState). w.mark) c.over-flusher.ensures.world ∙ number_is o ∙ sym (sym c.requires.names.first_is ∙ c.requires.stands.first)

pub serve-done-requires-clause-team : goal.serve-done-requires-clause-team
serve-done-requires-clause-team g c κs within =
    let pace = c.pace_of-pace.result in
    let many = nodes_of c.args.device.opened.value c.args.device.parts.book g.J.Naming.start c.requires.stands.book c.requires.cut c.requires.names.count_is ∙ ap node_count (sym c.requires.topology) in
    (c.pace_of-pace.ensures.workers ∙ ap (λ (t : Task). team_of t.workers (node_count c.args.device.topology)) (sym c.pace_of-pace.ensures.task) ∙ ap (team_of pace.task.workers) (sym many), c.in-Ok.ensures.count.0)

-- ## Where there is no memory for workers

pub returns-in_default-clause-premise : goal.returns-in_default-clause-premise
returns-in_default-clause-premise g c k = subst (λ d. AreTrue (g.D.Disk.reads d)) c.into_disk.ensures k

pub returns-in_default-clause-streamed : goal.returns-in_default-clause-streamed
returns-in_default-clause-streamed g c k began =
    let outputs = c.args.streams.now.outputs.items in
    let o = c.args.device.opened.value in
    let inputs = map (λ i. given_input i.port (g.I.Source.input i.source)) c.args.streams.now.inputs.items in
    subst (λ d. ServedInto g.J.Naming.formatted o.cut (next_of o) inputs (accepted_opened o) (Err Memory) outputs outputs (g.D.Disk.state c.args.device.store.disk) (g.D.Disk.state d)) (sym c.into_disk.ensures)
    (unserved g.J.Naming.formatted o.cut (next_of o) inputs (accepted_opened o) Memory outputs (g.D.Disk.state c.args.device.store.disk))

pub returns-in_default-clause-told : goal.returns-in_default-clause-told
returns-in_default-clause-told g c = later_none (node_count c.args.device.topology) (g.L.Listener.told c.args.listener.now)

pub returns-in_default-clause-failures : goal.returns-in_default-clause-failures
returns-in_default-clause-failures g c = uncounted _ _ false refl (ap g.D.Disk.failures_of c.into_disk.ensures)
