use Rattle.std.proofs.Common.{◌≡◌, true, false, refl, sym, subst, ap, ◌∙◌, ℕ, ◌<◌, length, get_or, arith, ◌≤◌, Ok}
use Rattle.tp_flush.proofs.Lower.{AreTrue, NodeState, t414, Moment, State, device_areas, verdict, World, Walks, Called, clear_calls, Resting, Cleared, OtherIsClosed, if_open, other_gate, IsFirst, Told, content_beside, Place}
use Rattle.tp_flush.specs.Copying.{IsPartOut}
use Rattle.tp_flush.specs.Progress.{is_out}
use Rattle.tp_flush.specs.Known.{Began, Known}
use Rattle.tp_flush.specs.Flushing.{AreGone, HoldsAllOf, KeepsCopy, Flushing, FlushedOn, HeadSays, IsOfDevice, KeepsWorld}
use Rattle.tp_flush.specs.Ends.{Tried}
use Rattle.tp_flush.proofs.Appends.{opens, rests_unbroken}
use Rattle.tp_flush.proofs.Closed.{clear_content, put_copies}
use Rattle.tp_flush.proofs.Devices.{clear_head, put_device}
use Rattle.tp_flush.proofs.Goings.{goes_still}
use Rattle.tp_flush.proofs.Puts.{Answered, after_put, cleared_walks, on_ok, on_ok_same, put_answered, put_keeps, put_known, put_net, put_stored, put_tried, told_put}
use Rattle.tp_flush.proofs.Weaker.{copy_later, device_later, world_later}
use Rattle.tp_flush.proofs.Forms.{holds_at}
use Rattle.tp_flush.proofs.Breaking.{first_where, whole_where}
use Rattle.tp_flush.proofs.flusher.Flusher.clear.Given as given
use Rattle.tp_flush.proofs.flusher.Flusher.clear.Goals as goal

pub returns-then-parts-clause-goes : goal.returns-then-parts-clause-goes
returns-then-parts-clause-goes g c =
    subst (λ (v : Flushing). FlushedOn g.J.Naming.formatted g.J.Naming.before c.args.self.now v) (sym c.self.view_is)
    (goes_still g.J.Naming.formatted g.J.Naming.before c.args.self.now c.known.ensures.disk)

resting : (g : given.Over) (c : goal.After-answer_of g) → c.self.inside.parts.whole.known.world.at ≡ Resting
resting g c = ap (λ (v : Flushing). v.world.at) c.self.view_is ∙ c.requires.rests

unbroken : (g : given.Over) (c : goal.After-answer_of g) → c.self.inside.parts.store.broken ≡ false
unbroken g c = rests_unbroken c.self.inside.parts.store.broken (sym c.self.invariant.3.at ∙ resting g c)

-- ## The premise on the reads after the call

abbrev premise : (g : given.Over) (c : goal.After-answer_of g) → Type 0
premise g c = AreTrue (g.D.Disk.reads c.clear_other-done.new.self.disk)

were : (g : given.Over) (c : goal.After-answer_of g) → premise g c → AreTrue (g.D.Disk.reads c.self.inside.parts.store.disk)
were g c = c.clear_other-done.ensures.premise

kept : (g : given.Over) (c : goal.After-answer_of g)
    → KeepsWorld (premise g c) g.J.Naming.formatted g.J.Naming.before c.self.inside.parts.whole.known (g.D.Disk.state c.self.inside.parts.store.disk) c.self.inside.parts.store.place c.self.inside.parts.store.broken c.self.inside.parts.raiser
kept g c =
    let p = c.self.inside.parts in
    world_later (AreTrue (g.D.Disk.reads p.store.disk)) (premise g c) (were g c) g.J.Naming.formatted g.J.Naming.before p.whole.known (g.D.Disk.state p.store.disk) p.store.place p.store.broken p.raiser c.self.invariant.3

copies : (g : given.Over) (c : goal.After-answer_of g)
    → KeepsCopy (premise g c) c.self.inside.parts.whole.known.world.net (g.D.Disk.state c.self.inside.parts.store.disk) c.self.inside.parts.store.place c.self.inside.parts.store.broken c.self.inside.parts.topology c.self.inside.parts.progress
copies g c =
    let p = c.self.inside.parts in
    copy_later (AreTrue (g.D.Disk.reads p.store.disk)) (premise g c) (were g c) p.whole.known.world.net (g.D.Disk.state p.store.disk) p.store.place p.store.broken p.topology p.progress c.self.invariant.4

device : (g : given.Over) (c : goal.After-answer_of g)
    → IsOfDevice (premise g c) g.J.Naming.room c.self.inside.parts.whole.known.world (g.D.Disk.state c.self.inside.parts.store.disk) c.self.inside.parts.store.place c.self.inside.parts.store.broken c.self.inside.parts.topology
device g c =
    let p = c.self.inside.parts in
    device_later (AreTrue (g.D.Disk.reads p.store.disk)) (premise g c) (were g c) g.J.Naming.room p.whole.known.world (g.D.Disk.state p.store.disk) p.store.place p.store.broken p.topology c.self.invariant.5

answered : (g : given.Over) (c : goal.After-answer_of g)
    → Answered c.clear_other-done.result c.clear_other-done.new.self.broken (g.D.Disk.failures_of c.self.inside.parts.store.disk) (g.D.Disk.failures_of c.clear_other-done.new.self.disk)
answered g c =
    let a = c.clear_other-done in
    put_answered a.result a.new.self.broken a.new.self.filled (g.D.Disk.failures_of c.self.inside.parts.store.disk) (g.D.Disk.failures_of a.new.self.disk) a.ensures.done (a.ensures.failed (unbroken g c))

walked : (g : given.Over) (c : goal.After-answer_of g) → premise g c → Began g.J.Naming.formatted g.J.Naming.before c.self.inside.parts.whole.known.opened
    → Walks t414 device_areas c.self.inside.parts.whole.known.world
    (after_put c.clear_other-done.new.self.broken c.self.inside.parts.whole.known.world (g.D.Disk.state c.clear_other-done.new.self.disk).now)
    (g.D.Disk.state c.self.inside.parts.store.disk) (g.D.Disk.state c.clear_other-done.new.self.disk)
walked g c k began =
    let p = c.self.inside.parts in
    let w : World NodeState = p.whole.known.world in
    let a = c.clear_other-done in
    let s : State = g.D.Disk.state p.store.disk in
    let new : State = g.D.Disk.state a.new.self.disk in
    let K = kept g c in
    let o = opens g.J.Naming.formatted w (K.reached k began) in
    cleared_walks w s new p.store.place (resting g c) (K.disk k)
    (a.ensures.asked (were g c k) (unbroken g c) o.0 (subst (λ (m : Moment). verdict m.bytes ≡ Ok o.0) (K.disk k) o.1))
    a.result a.new.self.broken (g.D.Disk.failures_of p.store.disk) (g.D.Disk.failures_of a.new.self.disk) (answered g c)
    (on_ok a.result (Cleared p.store.place s new) (Called (clear_calls (if_open (other_gate p.store.place) s.now.bytes)) s new) (λ C. C.called) (a.ensures.cleared k))
    (a.ensures.broke k (unbroken g c))

pub tell_where-requires-clause-whole : goal.tell_where-requires-clause-whole
tell_where-requires-clause-whole g c =
    whole_where c.self.inside.parts.store.broken c.self.inside.parts.key.value _ _ c.self.invariant.9 c.self.invariant.3.at (ap (λ (v : Flushing). v.world.at) c.self.view_is ∙ c.requires.rests)

pub invariant_of-self-2 : goal.invariant_of-self-2
invariant_of-self-2 g c =
    let p = c.self.inside.parts in
    let a = c.clear_other-done in
    let s : State = g.D.Disk.state p.store.disk in
    let new : State = g.D.Disk.state a.new.self.disk in
    let K = subst (λ broken. KeepsWorld (premise g c) g.J.Naming.formatted g.J.Naming.before p.whole.known s p.store.place broken p.raiser) (unbroken g c) (kept g c) in (
      c.tell_where.ensures.name ∙ c.self.invariant.0,
      c.self.invariant.1,
      subst (λ (k : Known). IsFirst c.tell_where.new.key.value k.world) (sym c.of-parts.ensures)
          (first_where p.key.value c.tell_where.new.key.value a.new.self.broken _ c.tell_where.ensures.key (told_put p.key.value a.new.self.broken p.whole.known.world new.now c.self.invariant.2)),
      subst (λ (k : Known). KeepsWorld (premise g c) g.J.Naming.formatted g.J.Naming.before k new a.new.self.place a.new.self.broken p.raiser) (sym c.of-parts.ensures)
          (subst (λ place. KeepsWorld (premise g c) g.J.Naming.formatted g.J.Naming.before (put_known p.whole.known a.new.self.broken new) new place a.new.self.broken p.raiser) (sym a.ensures.place)
          (put_keeps (premise g c) g.J.Naming.formatted g.J.Naming.before p.whole.known s p.store.place p.raiser K new a.new.self.broken (walked g c))),
      subst (λ (k : Known). KeepsCopy (premise g c) k.world.net new a.new.self.place a.new.self.broken p.topology (record p.progress { cleared = true })) (sym c.of-parts.ensures)
          (subst (λ net. KeepsCopy (premise g c) net new a.new.self.place a.new.self.broken p.topology (record p.progress { cleared = true })) (sym (put_net a.new.self.broken p.whole.known.world new.now))
          (put_copies (premise g c) p.whole.known.world.net new p.store.place a.new.self.place p.topology (record p.progress { cleared = true }) a.result a.new.self.broken (g.D.Disk.failures_of p.store.disk) (g.D.Disk.failures_of a.new.self.disk) c.self.invariant.4.roomy (answered g c) a.ensures.place
          (λ k. on_ok a.result (Cleared p.store.place s new) (OtherIsClosed p.store.place new) (λ P. P.closed) (a.ensures.cleared k))
          (λ k. on_ok a.result (Cleared p.store.place s new) ((i : ℕ) → i < length p.topology.pages → is_out (record p.progress { cleared = true }) i ≡ true → IsPartOut p.topology p.whole.known.world.net (content_beside p.store.place new) i (get_or p.topology.pages i 0))
          (λ C i there out. subst (λ xs. IsPartOut p.topology p.whole.known.world.net xs i (get_or p.topology.pages i 0))
          (sym (clear_content p.store.place s new (omega (arith, p.store.whole, g.met.D.Disk.whole p.store.disk)) (omega (arith, p.store.behind, p.store.inside)) C.called)) ((copies g c).images k (unbroken g c) i there out)) (a.ensures.cleared k)))),
      subst (λ (k : Known). IsOfDevice (premise g c) g.J.Naming.room k.world new a.new.self.place a.new.self.broken p.topology) (sym c.of-parts.ensures)
          (put_device (premise g c) g.J.Naming.room p.whole.known.world s new p.store.place a.new.self.place p.topology a.result a.new.self.broken (g.D.Disk.failures_of p.store.disk) (g.D.Disk.failures_of a.new.self.disk)
          (subst (λ broken. IsOfDevice (premise g c) g.J.Naming.room p.whole.known.world s p.store.place broken p.topology) (unbroken g c) (device g c)) (answered g c) a.ensures.place
          (λ k. on_ok a.result (Cleared p.store.place s new) (HeadSays p.topology p.store.place.areas new.now.bytes)
          (λ P. clear_head p.store.place s new p.topology (omega (arith, p.store.whole, g.met.D.Disk.whole p.store.disk)) (omega (arith, p.store.behind, p.store.inside)) P.called ((device g c).head k (unbroken g c))) (a.ensures.cleared k))),
      subst (λ (k : Known). g.J.Naming.first ≤ k.world.stored) (sym c.of-parts.ensures) (omega (arith, put_stored a.new.self.broken p.whole.known.world new.now, c.self.invariant.6)),
      subst (λ (t : Told). t.numbered_from ≤ c.of-parts.result.known.world.stored) (sym c.tell_where.ensures.key)
          (subst (λ (k : Known). p.key.value.numbered_from ≤ k.world.stored) (sym c.of-parts.ensures) (omega (arith, put_stored a.new.self.broken p.whole.known.world new.now, c.self.invariant.7))),
      subst (λ (t : Told). HoldsAllOf a.new.self.place.form t.form) (sym c.tell_where.ensures.key) (holds_at p.store.place a.new.self.place p.key.value.form (ap (λ (q : Place). q.form) a.ensures.place) c.self.invariant.8),
      c.tell_where.ensures.told,
      subst (λ (t : Told). AreGone c.of-parts.result.known.world.net t.frozen (record p.progress { cleared = true })) (sym c.tell_where.ensures.key)
          (subst (λ (k : Known). AreGone k.world.net p.key.value.frozen (record p.progress { cleared = true })) (sym c.of-parts.ensures)
          (subst (λ net. AreGone net p.key.value.frozen (record p.progress { cleared = true })) (sym (put_net a.new.self.broken p.whole.known.world new.now)) c.self.invariant.10)),
    )

abbrev behind : (g : given.Over) (c : goal.After-answer_of g) → Flushing
behind g c =
    let p = c.self.inside.parts in
    let a = c.clear_other-done in
    record {
      world = c.of-parts.result.known.world;
      state = g.D.Disk.state a.new.self.disk;
      reads = g.D.Disk.reads a.new.self.disk;
      size = g.D.Disk.size_of a.new.self.disk;
      failures = g.D.Disk.failures_of a.new.self.disk;
      opened = c.of-parts.result.known.opened;
      place = a.new.self.place;
      topology = p.topology;
      progress = record p.progress { cleared = true };
      frozen = c.tell_where.new.key.value.frozen;
    }

abbrev before : (g : given.Over) (c : goal.After-answer_of g) → Flushing
before g c =
    let p = c.self.inside.parts in
    record {
      world = p.whole.known.world;
      state = g.D.Disk.state p.store.disk;
      reads = g.D.Disk.reads p.store.disk;
      size = g.D.Disk.size_of p.store.disk;
      failures = g.D.Disk.failures_of p.store.disk;
      opened = p.whole.known.opened;
      place = p.store.place;
      topology = p.topology;
      progress = p.progress;
      frozen = p.key.value.frozen;
    }

pub returns-clause-tried : goal.returns-clause-tried
returns-clause-tried g c =
    let p = c.self.inside.parts in
    let a = c.clear_other-done in
    let new : State = g.D.Disk.state a.new.self.disk in
    subst (λ (v : Flushing). Tried c.answer_of.result v (behind g c)) c.self.view_is
    (put_tried a.result c.answer_of.result c.answer_of.ensures a.new.self.broken (before g c) (behind g c) new.now (answered g c) (resting g c) (ap (λ (k : Known). k.world) c.of-parts.ensures) a.ensures.place
    (on_ok_same a.result _ (λ h. refl)))

pub returns-clause-goes : goal.returns-clause-goes
returns-clause-goes g c =
    let p = c.self.inside.parts in
    let a = c.clear_other-done in
    let s : State = g.D.Disk.state p.store.disk in
    let new : State = g.D.Disk.state a.new.self.disk in
    subst (λ (v : Flushing). FlushedOn g.J.Naming.formatted g.J.Naming.before v (behind g c)) c.self.view_is (record {
      premise = were g c;
      walks = λ k began. subst (λ (x : Known). Walks t414 device_areas p.whole.known.world x.world s new) (sym c.of-parts.ensures) (walked g c k began);
      process = record { opened = ap (λ (k : Known). k.opened) c.of-parts.ensures; size = a.ensures.size; topology = refl };
    })

pub returns-clause-out : goal.returns-clause-out
returns-clause-out g c = ap (λ (v : Flushing). v.progress.out) c.self.view_is
