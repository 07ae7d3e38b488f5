use Rattle.std.proofs.Common.{◌≡◌, [], drop, Ok, sym, ap, subst, ◌∙◌}
use Rattle.std.specs.Prelude.{IfOk}
use Rattle.tp_run.proofs.Lower.{AreTrue, Place, is_full_for_snapshot, NodeState, State, held_of, next_of, verdict, World, reopened, handed, Flushing, Began}
use Rattle.tp_run.specs.Compacted.{AddsNone, Compacted, SaysLast, has_failed_in}
use Rattle.tp_run.specs.declared.compacting.Compaction.{Compaction}
use Rattle.tp_run.specs.Failures.{failures_after}
use Rattle.tp_run.proofs.Compacts.{walked_compacted}
use Rattle.tp_run.proofs.HandedOver.{none_handed}
use Rattle.tp_run.proofs.Premise.{same_premise}
use Rattle.tp_run.proofs.compacting.compact_parts.Goals as goal

pub over-flusher-requires-clause-bound : goal.over-flusher-requires-clause-bound
over-flusher-requires-clause-bound g c = sym c.requires.names.room_is ∙ c.requires.bound

pub over-flusher-requires-clause-first : goal.over-flusher-requires-clause-first
over-flusher-requires-clause-first g c = sym c.requires.names.first_is ∙ c.requires.stands.first

pub returns-clause-premise : goal.returns-clause-premise
returns-clause-premise g c k =
    let settled = subst AreTrue c.into_disk.ensures.reads k in
    subst AreTrue c.over-flusher.ensures.device.1 (c.switch_all-done.ensures.premise (same_premise c.settle_host_under.ensures.same.0 settled))

pub returns-clause-kept : goal.returns-clause-kept
returns-clause-kept g c k began =
    let settled = subst AreTrue c.into_disk.ensures.reads k in
    let switched = same_premise c.settle_host_under.ensures.same.0 settled in
    let over = c.switch_all-done.ensures.premise switched in
    let start = g.J.Naming.formatted in
    let before = g.J.Naming.before in
    let opened = c.args.opened.value in
    let old = c.over-flusher.result in
    let new = c.switch_all-done.new.flusher in
    let done = c.switch_all-done.result in
    let device = sym c.over-flusher.ensures.device.0 in
    let first : Began start before old.opened = subst (Began start before) (sym c.over-flusher.ensures.opened) began in
    let there : Began start before old.state.now.bytes = subst (λ (s : State). Began start before s.now.bytes) device began in
    let reads : verdict old.state.now.bytes ≡ Ok opened = subst (λ (s : State). verdict s.now.bytes ≡ Ok opened) device (c.requires.read (subst AreTrue c.over-flusher.ensures.device.1 over)) in
    let world : old.world ≡ reopened before old.state.now.bytes (held_of opened) opened.now =
    subst (λ (s : State). old.world ≡ reopened before s.now.bytes (held_of opened) opened.now) device c.over-flusher.ensures.world in
    let later : Began start before new.opened = subst (Began start before) (sym c.switch_all-done.ensures.process.opened) first in
    let none : handed (drop g.J.Naming.first new.world.journal) ≡ [] = none_handed c.start-shared.result.2 new.world.journal g.J.Naming.first c.start-shared.ensures.host (c.settle_host_under.ensures.handed settled later) in
    let untouched : handed (drop (next_of opened) new.world.journal) ≡ [] =
    subst (λ n. handed (drop n new.world.journal) ≡ []) (sym c.requires.names.first_is ∙ c.requires.stands.first) none in
    let added : IfOk done (λ (done : Compaction). AddsNone (next_of opened) new.world) =
    subst (λ n. IfOk done (λ (done : Compaction). AddsNone n new.world)) (sym c.requires.names.first_is ∙ c.requires.stands.first) (c.switch_all-done.ensures.none switched first) in
    let kept : Compacted start done old.state new.state =
    walked_compacted start before opened old new done (c.known.ensures.reached over first) there reads world (c.switch_all-done.ensures.walks switched first) c.switch_all-done.ensures.stored added untouched in
    subst (λ s. Compacted start done (g.D.Disk.state c.args.store.disk) s) (sym (c.into_disk.ensures.state ∙ ap (λ (f : Flushing). f.state) c.settle_host_under.ensures.same.0)) (subst (λ s. Compacted start done s new.state) c.over-flusher.ensures.device.0 kept)

-- ## Which fault

pub switch_all-done-requires : goal.switch_all-done-requires
switch_all-done-requires g c =
    record { rests = ap (λ (w : World NodeState). w.at) c.over-flusher.ensures.world; first = c.requires.first ∙ sym (sym c.requires.names.first_is ∙ c.requires.stands.first); empty = c.seat-seat.ensures.empty }

pub returns-clause-failures : goal.returns-clause-failures
returns-clause-failures g c =
    let here = c.over-flusher.ensures.device.3 in
    c.into_disk.ensures.failures ∙ ap (λ (f : Flushing). f.failures) c.settle_host_under.ensures.same.0 ∙ subst (λ n. c.switch_all-done.new.flusher.failures ≡ failures_after (has_failed_in c.switch_all-done.result) n) here c.switch_all-done.ensures.failures

pub returns-clause-last : goal.returns-clause-last
returns-clause-last g c =
    subst (λ (p : Place). SaysLast c.switch_all-done.result (is_full_for_snapshot p.generation)) c.over-flusher.ensures.place.0 c.switch_all-done.ensures.last
