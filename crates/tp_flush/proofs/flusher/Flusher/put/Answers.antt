use Rattle.std.proofs.Common.{◌≡◌, ◌+◌, ◌<◌, ◌≤◌, [], ◌∷◌, false, get_or, length, refl, sym, subst, ap, ◌∙◌, ℕ, true, arith, OnOk, Ok}
use Rattle.std.specs.Prelude.{IfOk}
use Rattle.tp_flush.proofs.Lower.{same_kept, AreTrue, NodeState, t414, Moment, State, device_areas, image_length, verdict, World, Walks, Called, put_calls, Resting, OtherIsClosed, PutBehind, other_gate, piece_place, IsFirst, Told, content_beside, Place, written}
use Rattle.tp_flush.specs.Copying.{IsPartOut}
use Rattle.tp_flush.specs.Progress.{is_out}
use Rattle.tp_flush.specs.Known.{Began, Known}
use Rattle.tp_flush.specs.Flushing.{AreGone, HoldsAllOf, KeepsCopy, Flushing, FlushedOn, HeadSays, IsOfDevice, KeepsWorld}
use Rattle.tp_flush.specs.Ends.{Tried}
use Rattle.tp_flush.proofs.Appends.{opens, rests_unbroken}
use Rattle.tp_flush.proofs.Closed.{piece_images, piece_room, put_copies}
use Rattle.tp_flush.proofs.Devices.{piece_head, put_device}
use Rattle.tp_flush.proofs.Beside.{put_content}
use Rattle.tp_flush.proofs.Puts.{if_answered, image_inside, Answered, after_put, on_ok, on_ok_same, piece_walks, put_answered, put_keeps, put_known, put_net, put_stored, put_tried, told_put}
use Rattle.tp_flush.proofs.Weaker.{copy_later, device_later, world_later}
use Rattle.tp_flush.proofs.Forms.{holds_at}
use Rattle.tp_flush.proofs.Breaking.{first_where, whole_where}
use Rattle.tp_flush.proofs.flusher.Flusher.put.Given as given
use Rattle.tp_flush.proofs.flusher.Flusher.put.Goals as goal

resting : (g : given.Over) (c : goal.After-answer_of g) → c.self.inside.parts.whole.known.world.at ≡ Resting
resting g c = ap (λ (v : Flushing). v.world.at) c.self.view_is ∙ c.requires.rests

unbroken : (g : given.Over) (c : goal.After-answer_of g) → c.self.inside.parts.store.broken ≡ false
unbroken g c = rests_unbroken c.self.inside.parts.store.broken (sym c.self.invariant.3.at ∙ resting g c)

-- ## The premise on the reads after the call

abbrev premise : (g : given.Over) (c : goal.After-answer_of g) → Type 0
premise g c = AreTrue (g.D.Disk.reads c.put_at-done.new.self.disk)

were : (g : given.Over) (c : goal.After-answer_of g) → premise g c → AreTrue (g.D.Disk.reads c.self.inside.parts.store.disk)
were g c = same_kept (g.D.Disk.reads c.self.inside.parts.store.disk) (g.D.Disk.reads c.put_at-done.new.self.disk) c.put_at-done.ensures.unread

kept : (g : given.Over) (c : goal.After-answer_of g)
    → KeepsWorld (premise g c) g.J.Naming.formatted g.J.Naming.before c.self.inside.parts.whole.known (g.D.Disk.state c.self.inside.parts.store.disk) c.self.inside.parts.store.place c.self.inside.parts.store.broken c.self.inside.parts.raiser
kept g c =
    let p = c.self.inside.parts in
    world_later (AreTrue (g.D.Disk.reads p.store.disk)) (premise g c) (were g c) g.J.Naming.formatted g.J.Naming.before p.whole.known (g.D.Disk.state p.store.disk) p.store.place p.store.broken p.raiser c.self.invariant.3

copies : (g : given.Over) (c : goal.After-answer_of g)
    → KeepsCopy (premise g c) c.self.inside.parts.whole.known.world.net (g.D.Disk.state c.self.inside.parts.store.disk) c.self.inside.parts.store.place c.self.inside.parts.store.broken c.self.inside.parts.topology c.self.inside.parts.progress
copies g c =
    let p = c.self.inside.parts in
    copy_later (AreTrue (g.D.Disk.reads p.store.disk)) (premise g c) (were g c) p.whole.known.world.net (g.D.Disk.state p.store.disk) p.store.place p.store.broken p.topology p.progress c.self.invariant.4

device : (g : given.Over) (c : goal.After-answer_of g)
    → IsOfDevice (premise g c) g.J.Naming.room c.self.inside.parts.whole.known.world (g.D.Disk.state c.self.inside.parts.store.disk) c.self.inside.parts.store.place c.self.inside.parts.store.broken c.self.inside.parts.topology
device g c =
    let p = c.self.inside.parts in
    device_later (AreTrue (g.D.Disk.reads p.store.disk)) (premise g c) (were g c) g.J.Naming.room p.whole.known.world (g.D.Disk.state p.store.disk) p.store.place p.store.broken p.topology c.self.invariant.5

-- the place of its first byte
abbrev place : (g : given.Over) (c : goal.After-answer_of g) → ℕ
place g c = c.args.image + c.args.inner

-- the begin and the end of the image
begins : (g : given.Over) (c : goal.After-answer_of g) → c.args.image ≡ piece_place c.self.inside.parts.topology c.args.node 0
begins g c = subst (λ (v : Flushing). c.args.image ≡ piece_place v.topology c.args.node 0) (sym c.self.view_is) c.requires.image

there : (g : given.Over) (c : goal.After-answer_of g) → c.args.node < length c.self.inside.parts.topology.pages
there g c = subst (λ (v : Flushing). c.args.node < length v.topology.pages) (sym c.self.view_is) c.requires.node

within : (g : given.Over) (c : goal.After-answer_of g) → c.args.inner + length c.args.bytes.now ≤ image_length (get_or c.self.inside.parts.topology.pages c.args.node 0)
within g c = subst (λ (v : Flushing). c.args.inner + length c.args.bytes.now ≤ image_length (get_or v.topology.pages c.args.node 0)) (sym c.self.view_is) c.requires.within

answered : (g : given.Over) (c : goal.After-answer_of g)
    → Answered c.put_at-done.result c.put_at-done.new.self.broken (g.D.Disk.failures_of c.self.inside.parts.store.disk) (g.D.Disk.failures_of c.put_at-done.new.self.disk)
answered g c =
    let a = c.put_at-done in
    put_answered a.result a.new.self.broken a.new.self.filled (g.D.Disk.failures_of c.self.inside.parts.store.disk) (g.D.Disk.failures_of a.new.self.disk) a.ensures.done (a.ensures.failed (unbroken g c))

put_to : (g : given.Over) (c : goal.After-answer_of g) → premise g c
    → OnOk c.put_at-done.result (PutBehind c.self.inside.parts.store.place (place g c) c.args.bytes.now (g.D.Disk.state c.self.inside.parts.store.disk) (g.D.Disk.state c.put_at-done.new.self.disk))
put_to g c k = c.put_at-done.ensures.put k

walked : (g : given.Over) (c : goal.After-answer_of g) → premise g c → Began g.J.Naming.formatted g.J.Naming.before c.self.inside.parts.whole.known.opened
    → Walks t414 device_areas c.self.inside.parts.whole.known.world
    (after_put c.put_at-done.new.self.broken c.self.inside.parts.whole.known.world (g.D.Disk.state c.put_at-done.new.self.disk).now)
    (g.D.Disk.state c.self.inside.parts.store.disk) (g.D.Disk.state c.put_at-done.new.self.disk)
walked g c k began =
    let p = c.self.inside.parts in
    let w : World NodeState = p.whole.known.world in
    let a = c.put_at-done in
    let s : State = g.D.Disk.state p.store.disk in
    let new : State = g.D.Disk.state a.new.self.disk in
    let at = place g c in
    let K = kept g c in
    let o = opens g.J.Naming.formatted w (K.reached k began) in
    piece_walks w s new p.store.place (resting g c) (K.disk k) o.0 o.1 (other_gate p.store.place + 1 + at) c.args.bytes.now
    (a.ensures.asked (were g c k) (unbroken g c) o.0 (subst (λ (m : Moment). verdict m.bytes ≡ Ok o.0) (K.disk k) o.1))
    a.result a.new.self.broken (g.D.Disk.failures_of p.store.disk) (g.D.Disk.failures_of a.new.self.disk) (answered g c)
    (on_ok a.result (PutBehind p.store.place at c.args.bytes.now s new) (Called (put_calls ((other_gate p.store.place + 1 + at, c.args.bytes.now) ∷ [])) s new) (λ P. P.called) (put_to g c k))
    (a.ensures.broke k (unbroken g c))

inside : (g : given.Over) (c : goal.After-answer_of g) → place g c + length c.args.bytes.now < c.self.inside.parts.store.place.areas.length
inside g c =
    let p = c.self.inside.parts in
    let ends = image_inside p.topology p.store.place.areas.length c.args.node c.self.invariant.4.roomy (there g c) in
    let begin = begins g c in
    let fits = within g c in
    omega (arith, ends, begin, fits)

pub put_at-done-requires-clause-inside : goal.put_at-done-requires-clause-inside
put_at-done-requires-clause-inside g c =
    let p = c.self.inside.parts in
    let there = subst (λ (v : Flushing). c.args.node < length v.topology.pages) (sym c.self.view_is) c.requires.node in
    let ends = image_inside p.topology p.store.place.areas.length c.args.node c.self.invariant.4.roomy there in
    let begin = subst (λ (v : Flushing). c.args.image ≡ piece_place v.topology c.args.node 0) (sym c.self.view_is) c.requires.image in
    let fits = subst (λ (v : Flushing). c.args.inner + length c.args.bytes.now ≤ image_length (get_or v.topology.pages c.args.node 0)) (sym c.self.view_is) c.requires.within in
    omega (arith, ends, begin, fits)

pub tell_where-requires-clause-whole : goal.tell_where-requires-clause-whole
tell_where-requires-clause-whole g c =
    whole_where c.self.inside.parts.store.broken c.self.inside.parts.key.value _ _ c.self.invariant.9 c.self.invariant.3.at (ap (λ (v : Flushing). v.world.at) c.self.view_is ∙ c.requires.rests)

pub invariant_of-self : goal.invariant_of-self
invariant_of-self g c =
    let p = c.self.inside.parts in
    let a = c.put_at-done in
    let s : State = g.D.Disk.state p.store.disk in
    let new : State = g.D.Disk.state a.new.self.disk in
    let K = subst (λ broken. KeepsWorld (premise g c) g.J.Naming.formatted g.J.Naming.before p.whole.known s p.store.place broken p.raiser) (unbroken g c) (kept g c) in (
      c.tell_where.ensures.name ∙ c.self.invariant.0,
      c.self.invariant.1,
      subst (λ (k : Known). IsFirst c.tell_where.new.key.value k.world) (sym c.of-parts.ensures)
          (first_where p.key.value c.tell_where.new.key.value a.new.self.broken _ c.tell_where.ensures.key (told_put p.key.value a.new.self.broken p.whole.known.world new.now c.self.invariant.2)),
      subst (λ (k : Known). KeepsWorld (premise g c) g.J.Naming.formatted g.J.Naming.before k new a.new.self.place a.new.self.broken p.raiser) (sym c.of-parts.ensures)
          (subst (λ place. KeepsWorld (premise g c) g.J.Naming.formatted g.J.Naming.before (put_known p.whole.known a.new.self.broken new) new place a.new.self.broken p.raiser) (sym a.ensures.place)
          (put_keeps (premise g c) g.J.Naming.formatted g.J.Naming.before p.whole.known s p.store.place p.raiser K new a.new.self.broken (walked g c))),
      subst (λ (k : Known). KeepsCopy (premise g c) k.world.net new a.new.self.place a.new.self.broken p.topology p.progress) (sym c.of-parts.ensures)
          (subst (λ net. KeepsCopy (premise g c) net new a.new.self.place a.new.self.broken p.topology p.progress) (sym (put_net a.new.self.broken p.whole.known.world new.now))
          (put_copies (premise g c) p.whole.known.world.net new p.store.place a.new.self.place p.topology p.progress a.result a.new.self.broken (g.D.Disk.failures_of p.store.disk) (g.D.Disk.failures_of a.new.self.disk) c.self.invariant.4.roomy (answered g c) a.ensures.place
          (λ k. on_ok a.result (PutBehind p.store.place (place g c) c.args.bytes.now s new) (OtherIsClosed p.store.place new) (λ P. P.closed) (put_to g c k))
          (λ k. on_ok a.result (PutBehind p.store.place (place g c) c.args.bytes.now s new) ((i : ℕ) → i < length p.topology.pages → is_out p.progress i ≡ true → IsPartOut p.topology p.whole.known.world.net (content_beside p.store.place new) i (get_or p.topology.pages i 0))
          (λ P. piece_images p.topology p.whole.known.world.net p.store.place s new c.args.node (place g c) c.args.bytes.now p.progress (omega (arith, p.store.whole, g.met.D.Disk.whole p.store.disk)) c.self.invariant.4.roomy
          (there g c) (omega (arith, begins g c)) (omega (arith, begins g c, within g c))
          (subst (λ (v : Flushing). is_out v.progress c.args.node ≡ false) (sym c.self.view_is) c.requires.free) P.called ((copies g c).images k (unbroken g c))) (put_to g c k)))),
      subst (λ (k : Known). IsOfDevice (premise g c) g.J.Naming.room k.world new a.new.self.place a.new.self.broken p.topology) (sym c.of-parts.ensures)
          (put_device (premise g c) g.J.Naming.room p.whole.known.world s new p.store.place a.new.self.place p.topology a.result a.new.self.broken (g.D.Disk.failures_of p.store.disk) (g.D.Disk.failures_of a.new.self.disk)
          (subst (λ broken. IsOfDevice (premise g c) g.J.Naming.room p.whole.known.world s p.store.place broken p.topology) (unbroken g c) (device g c)) (answered g c) a.ensures.place
          (λ k. on_ok a.result (PutBehind p.store.place (place g c) c.args.bytes.now s new) (HeadSays p.topology p.store.place.areas new.now.bytes)
          (λ P. piece_head p.store.place (place g c) c.args.bytes.now s new p.topology (omega (arith, p.store.whole, g.met.D.Disk.whole p.store.disk)) (inside g c) P.called
          ((device g c).head k (unbroken g c))) (put_to g c k))),
      subst (λ (k : Known). g.J.Naming.first ≤ k.world.stored) (sym c.of-parts.ensures) (omega (arith, put_stored a.new.self.broken p.whole.known.world new.now, c.self.invariant.6)),
      subst (λ (t : Told). t.numbered_from ≤ c.of-parts.result.known.world.stored) (sym c.tell_where.ensures.key)
          (subst (λ (k : Known). p.key.value.numbered_from ≤ k.world.stored) (sym c.of-parts.ensures) (omega (arith, put_stored a.new.self.broken p.whole.known.world new.now, c.self.invariant.7))),
      subst (λ (t : Told). HoldsAllOf a.new.self.place.form t.form) (sym c.tell_where.ensures.key) (holds_at p.store.place a.new.self.place p.key.value.form (ap (λ (q : Place). q.form) a.ensures.place) c.self.invariant.8),
      c.tell_where.ensures.told,
      subst (λ (t : Told). AreGone c.of-parts.result.known.world.net t.frozen p.progress) (sym c.tell_where.ensures.key)
          (subst (λ (k : Known). AreGone k.world.net p.key.value.frozen p.progress) (sym c.of-parts.ensures)
          (subst (λ net. AreGone net p.key.value.frozen p.progress) (sym (put_net a.new.self.broken p.whole.known.world new.now)) c.self.invariant.10)),
    )

abbrev behind : (g : given.Over) (c : goal.After-answer_of g) → Flushing
behind g c =
    let p = c.self.inside.parts in
    let a = c.put_at-done in
    record {
      world = c.of-parts.result.known.world;
      state = g.D.Disk.state a.new.self.disk;
      reads = g.D.Disk.reads a.new.self.disk;
      size = g.D.Disk.size_of a.new.self.disk;
      failures = g.D.Disk.failures_of a.new.self.disk;
      opened = c.of-parts.result.known.opened;
      place = a.new.self.place;
      topology = p.topology;
      progress = p.progress;
      frozen = c.tell_where.new.key.value.frozen;
    }

abbrev before : (g : given.Over) (c : goal.After-answer_of g) → Flushing
before g c =
    let p = c.self.inside.parts in
    record {
      world = p.whole.known.world;
      state = g.D.Disk.state p.store.disk;
      reads = g.D.Disk.reads p.store.disk;
      size = g.D.Disk.size_of p.store.disk;
      failures = g.D.Disk.failures_of p.store.disk;
      opened = p.whole.known.opened;
      place = p.store.place;
      topology = p.topology;
      progress = p.progress;
      frozen = p.key.value.frozen;
    }

pub returns-clause-tried : goal.returns-clause-tried
returns-clause-tried g c =
    let p = c.self.inside.parts in
    let a = c.put_at-done in
    let new : State = g.D.Disk.state a.new.self.disk in
    subst (λ (v : Flushing). Tried c.answer_of.result v (behind g c)) c.self.view_is
    (put_tried a.result c.answer_of.result c.answer_of.ensures a.new.self.broken (before g c) (behind g c) new.now (answered g c) (resting g c) (ap (λ (k : Known). k.world) c.of-parts.ensures) a.ensures.place
    (on_ok_same a.result _ (λ h. h)))

pub returns-clause-goes : goal.returns-clause-goes
returns-clause-goes g c =
    let p = c.self.inside.parts in
    let a = c.put_at-done in
    let s : State = g.D.Disk.state p.store.disk in
    let new : State = g.D.Disk.state a.new.self.disk in
    subst (λ (v : Flushing). FlushedOn g.J.Naming.formatted g.J.Naming.before v (behind g c)) c.self.view_is (record {
      premise = were g c;
      walks = λ k began. subst (λ (x : Known). Walks t414 device_areas p.whole.known.world x.world s new) (sym c.of-parts.ensures) (walked g c k began);
      process = record { opened = ap (λ (k : Known). k.opened) c.of-parts.ensures; size = a.ensures.size; topology = refl };
    })

pub returns-clause-same : goal.returns-clause-same
returns-clause-same g c =
    let p = c.self.inside.parts in
    let a = c.put_at-done in (
      ap (λ (k : Known). k.world.net) c.of-parts.ensures ∙ put_net a.new.self.broken p.whole.known.world (g.D.Disk.state a.new.self.disk).now ∙ ap (λ (v : Flushing). v.world.net) c.self.view_is,
      ap (λ (v : Flushing). v.progress) c.self.view_is,
    )

pub returns-clause-room : goal.returns-clause-room
returns-clause-room g c k =
    let p = c.self.inside.parts in
    let s : State = g.D.Disk.state p.store.disk in
    subst (λ (v : Flushing). place g c + length c.args.bytes.now ≤ length (content_beside v.place v.state)) c.self.view_is
    (piece_room p.store.place s (place g c + length c.args.bytes.now) (omega (arith, p.store.whole, g.met.D.Disk.whole p.store.disk)) (inside g c))

pub returns-clause-content : goal.returns-clause-content
returns-clause-content g c k =
    let p = c.self.inside.parts in
    let a = c.put_at-done in
    let s : State = g.D.Disk.state p.store.disk in
    let new : State = g.D.Disk.state a.new.self.disk in
    let at = place g c in
    subst (λ (v : Flushing). IfOk c.answer_of.result (λ done. content_beside a.new.self.place new ≡ written (content_beside v.place v.state) at c.args.bytes.now)) c.self.view_is
    (if_answered a.result c.answer_of.result c.answer_of.ensures (content_beside a.new.self.place new ≡ written (content_beside p.store.place s) at c.args.bytes.now)
    (on_ok a.result (PutBehind p.store.place at c.args.bytes.now s new) (content_beside a.new.self.place new ≡ written (content_beside p.store.place s) at c.args.bytes.now)
    (λ P. ap (λ (q : Place). content_beside q new) a.ensures.place
    ∙ put_content p.store.place at c.args.bytes.now s new (omega (arith, p.store.whole, g.met.D.Disk.whole p.store.disk)) (inside g c) P.called) (put_to g c k)))
