use Rattle.std.proofs.Common.{◌≡◌, ◌≤◌, ◌+◌, ℕ, arith, refl, sym, ap, subst, ◌∙◌, Err}
use Rattle.tp_run.proofs.Lower.{AreTrue, Moment, Topology, Began, Opened, Place, has_shape, is_full_for_snapshot}
use Rattle.tp_run.specs.declared.compacting.CompactFault.TheVariants.{Opening, Memory}
use Rattle.tp_run.specs.Compacted.{Compacted, SaysLast, has_failed_in}
use Rattle.tp_run.specs.Compacted.{room_behind}
use Rattle.tp_run.proofs.Answered.{compact_answered}
use Rattle.tp_run.proofs.Compacts.{if_both, last_compacted, opened_compacted, unwritten_compacted}
use Rattle.tp_run.proofs.Failures.{opening_counted}
use Rattle.tp_run.specs.Failures.{failures_after}
use Rattle.tp_run.proofs.compacting.compact.Goals as goal

pub compact_parts-requires-clause-names : goal.compact_parts-requires-clause-names
compact_parts-requires-clause-names g c =
    record { roll_is = refl; first_is = refl; wires_are = refl; count_is = refl; ports_are = refl; nodes_are = λ i. refl; mark_is = refl; flusher_is = refl; host_is = refl; sights_is = refl; room_is = refl; accepted_is = λ p. refl }

pub parts_of-requires : goal.parts_of-requires
parts_of-requires g c =
    let shape = has_shape c.in-Ok.opened.head.topology c.known.ensures.topology in
    omega (arith, shape.some_ports)

pub returns-in_default-clause-premise : goal.returns-in_default-clause-premise
returns-in_default-clause-premise g c k = c.open.ensures.premise (subst (λ d. AreTrue (g.D.Disk.reads d)) (c.into_disk.ensures ∙ c.store-store.ensures.disk) k)

pub returns-clause-premise : goal.returns-clause-premise
returns-clause-premise g c k = c.open.ensures.premise (subst (λ d. AreTrue (g.D.Disk.reads d)) c.store-store.ensures.disk (c.compact_parts.ensures.premise k))

pub returns-in-Err-clause-kept : goal.returns-in-Err-clause-kept
returns-in-Err-clause-kept g c k began =
    unwritten_compacted g.history.formatted (Opening c.in-Err.unopened) (g.D.Disk.state c.args.disk) (g.D.Disk.state c.open.new.disk) c.open.ensures.leaves

pub returns-in_default-clause-kept : goal.returns-in_default-clause-kept
returns-in_default-clause-kept g c k began =
    subst (λ d. Compacted g.history.formatted (Err Memory) (g.D.Disk.state c.args.disk) (g.D.Disk.state d)) (sym (c.into_disk.ensures ∙ c.store-store.ensures.disk))
    (unwritten_compacted g.history.formatted Memory (g.D.Disk.state c.args.disk) (g.D.Disk.state c.open.new.disk) c.open.ensures.leaves)

pub returns-clause-kept : goal.returns-clause-kept
returns-clause-kept g c k began =
    let start = g.history.formatted in
    let done = c.compact_parts.result.1 in
    let kept : (g.D.Disk.state c.open.new.disk).now.bytes ≡ (g.D.Disk.state c.args.disk).now.bytes = ap (λ (m : Moment). m.bytes) c.in-Ok.ensures.kept in
    let same : (g.D.Disk.state c.store-store.result.disk).now.bytes ≡ (g.D.Disk.state c.args.disk).now.bytes = ap (λ d. (g.D.Disk.state d).now.bytes) c.store-store.ensures.disk ∙ kept in
    opened_compacted start done (g.D.Disk.state c.args.disk) (g.D.Disk.state c.open.new.disk) (g.D.Disk.state c.compact_parts.result.0) c.open.ensures.leaves kept
    (subst (λ d. Compacted start done (g.D.Disk.state d) (g.D.Disk.state c.compact_parts.result.0)) c.store-store.ensures.disk
    (c.compact_parts.ensures.kept k (subst (Began start g.history.before) (sym same) began)))

pub returns-clause-grown : goal.returns-clause-grown
returns-clause-grown g c k =
    let opened = c.in-Ok.opened in
    let topology = c.topology_of-topology.result in
    let area = ap (λ (p : Place). p.areas.length) c.store-store.ensures.place in
    if_both c.compact_parts.result.1 (λ done. done.generation ≡ c.store-store.result.place.generation + 1) (λ done. done.room ≤ room_behind topology c.store-store.result.place.areas.length done.next) _
    (λ done grown room. record {
      opened = opened;
      is = c.in-Ok.ensures.is (subst (λ d. AreTrue (g.D.Disk.reads d)) c.store-store.ensures.disk (c.compact_parts.ensures.premise k));
      generation = grown ∙ ap (λ (p : Place). p.generation + 1) c.store-store.ensures.place;
      room = subst (λ (t : Topology). done.room ≤ room_behind t opened.head.areas.length done.next) c.topology_of-topology.ensures (subst (λ (bytes : ℕ). done.room ≤ room_behind topology bytes done.next) area room);
    })
    c.compact_parts.ensures.switched c.compact_parts.ensures.room

pub returns-clause-unwritten : goal.returns-clause-unwritten
returns-clause-unwritten g c unbegun = absurd (last_compacted c.compact_parts.result.1 (is_full_for_snapshot c.store-store.result.place.generation) c.compact_parts.ensures.last unbegun)

-- ## Which fault

pub returns-in-Err-clause-answer : goal.returns-in-Err-clause-answer
returns-in-Err-clause-answer g c k = c.in-Err.ensures.is k

pub returns-in_default-clause-answer : goal.returns-in_default-clause-answer
returns-in_default-clause-answer g c k = record { opened = c.in-Ok.opened; is = c.in-Ok.ensures.is (subst (λ d. AreTrue (g.D.Disk.reads d)) (c.into_disk.ensures ∙ c.store-store.ensures.disk) k); has = tt }

pub returns-clause-answer : goal.returns-clause-answer
returns-clause-answer g c k =
    let generation = ap (λ (p : Place). p.generation) c.store-store.ensures.place in
    compact_answered _ c.in-Ok.opened c.compact_parts.result.1 (c.in-Ok.ensures.is (subst (λ d. AreTrue (g.D.Disk.reads d)) c.store-store.ensures.disk (c.compact_parts.ensures.premise k))) (subst (λ n. SaysLast c.compact_parts.result.1 (is_full_for_snapshot n)) generation c.compact_parts.ensures.last)

pub returns-in-Err-clause-failures : goal.returns-in-Err-clause-failures
returns-in-Err-clause-failures g c = opening_counted Opened c.in-Err.unopened (g.D.Disk.failures_of c.args.disk) (g.D.Disk.failures_of c.open.new.disk) c.in-Err.ensures.counts.failures

pub returns-in_default-clause-failures : goal.returns-in_default-clause-failures
returns-in_default-clause-failures g c =
    let same = ap g.D.Disk.failures_of (c.into_disk.ensures ∙ c.store-store.ensures.disk) in
    let none = c.in-Ok.ensures.counts.failures in
    omega (arith, same, none)

pub returns-clause-failures : goal.returns-clause-failures
returns-clause-failures g c =
    subst (λ n. g.D.Disk.failures_of c.compact_parts.result.0 ≡ failures_after (has_failed_in c.compact_parts.result.1) n)
    (ap g.D.Disk.failures_of c.store-store.ensures.disk ∙ c.in-Ok.ensures.counts.failures) c.compact_parts.ensures.failures
