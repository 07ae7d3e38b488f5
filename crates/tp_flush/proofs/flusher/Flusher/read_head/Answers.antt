use Rattle.std.proofs.Common.{refl, sym, subst, ap, ◌∙◌, ◌≤◌, arith}
use Rattle.tp_flush.proofs.Lower.{AreTrue, State, IsFirst, IsFrozenHead, Told, IsFrozenAs}
use Rattle.tp_flush.specs.Known.{Known}
use Rattle.tp_flush.specs.Flushing.{AreGone, KeepsCopy, Flushing, IsOfDevice, KeepsWorld, OnlyLooked}
use Rattle.tp_flush.proofs.Closed.{frozen_told, look_copies}
use Rattle.tp_flush.proofs.Gone.{gone_told}
use Rattle.tp_flush.proofs.Devices.{look_device}
use Rattle.tp_flush.proofs.Goings.{goes_looked, went_looked}
use Rattle.tp_flush.proofs.Kept.{learn_keeps, learned_looked}
use Rattle.tp_flush.proofs.Forms.{holds_since}
use Rattle.tp_flush.proofs.Breaking.{where_since}
use Rattle.tp_flush.proofs.flusher.Flusher.read_head.Given as given
use Rattle.tp_flush.proofs.flusher.Flusher.read_head.Goals as goal

pub invariant_of-self : goal.invariant_of-self
invariant_of-self g c =
    let p = c.self.inside.parts in
    let now = c.frozen_head-found.new.key.value in
    let s : State = g.D.Disk.state p.store.disk in (
      c.frozen_head-found.ensures.name ∙ c.self.invariant.0,
      c.self.invariant.1,
      subst (λ (k : Known). IsFirst now k.world) (sym c.of-parts.ensures) (record { net = refl; base = refl; journal = refl }),
      subst (λ (k : Known). KeepsWorld (AreTrue (g.D.Disk.reads p.store.disk)) g.J.Naming.formatted g.J.Naming.before k s p.store.place p.store.broken p.raiser) (sym c.of-parts.ensures)
          (learn_keeps (AreTrue (g.D.Disk.reads p.store.disk)) g.J.Naming.formatted g.J.Naming.before p.whole.known s p.store.place p.store.broken p.raiser c.self.invariant.3 p.key.value now c.self.invariant.2 c.frozen_head-found.ensures.since),
      subst (λ (k : Known). KeepsCopy (AreTrue (g.D.Disk.reads p.store.disk)) k.world.net s p.store.place p.store.broken p.topology p.progress) (sym c.of-parts.ensures)
          (look_copies (AreTrue (g.D.Disk.reads p.store.disk)) p.whole.known.world p.key.value now s p.store.place p.store.broken p.topology p.progress c.self.invariant.2 c.frozen_head-found.ensures.since c.self.invariant.4),
      subst (λ (k : Known). IsOfDevice (AreTrue (g.D.Disk.reads p.store.disk)) g.J.Naming.room k.world s p.store.place p.store.broken p.topology) (sym c.of-parts.ensures)
          (look_device (AreTrue (g.D.Disk.reads p.store.disk)) g.J.Naming.room p.whole.known.world p.key.value now s p.store.place p.store.broken p.topology c.self.invariant.2 c.frozen_head-found.ensures.since c.self.invariant.5),
      subst (λ (k : Known). g.J.Naming.first ≤ k.world.stored) (sym c.of-parts.ensures) c.self.invariant.6,
      subst (λ (k : Known). now.numbered_from ≤ k.world.stored) (sym c.of-parts.ensures) (omega (arith, c.frozen_head-found.ensures.since.numbered, c.self.invariant.7)),
      holds_since p.store.place.form p.key.value now c.frozen_head-found.ensures.since c.self.invariant.8,
      where_since p.store.broken p.key.value now _ c.frozen_head-found.ensures.since c.self.invariant.9,
      subst (λ (k : Known). AreGone k.world.net now.frozen p.progress) (sym c.of-parts.ensures) (gone_told p.whole.known.world p.key.value now p.progress c.self.invariant.2 c.frozen_head-found.ensures.since c.self.invariant.10),
    )

abbrev flushing : (g : given.Over) (c : goal.After-parts-3-1 g) → Known → Told → Flushing
flushing g c k told =
    let p = c.self.inside.parts in
    record {
      world = k.world;
      state = g.D.Disk.state p.store.disk;
      reads = g.D.Disk.reads p.store.disk;
      size = g.D.Disk.size_of p.store.disk;
      failures = g.D.Disk.failures_of p.store.disk;
      opened = k.opened;
      place = p.store.place;
      topology = p.topology;
      progress = p.progress;
      frozen = told.frozen;
    }

looked : (g : given.Over) (c : goal.After-parts-3-1 g) → OnlyLooked c.args.self.now (flushing g c c.of-parts.result.known c.frozen_head-found.new.key.value)
looked g c =
    let p = c.self.inside.parts in
    subst (λ (v : Flushing). OnlyLooked v (flushing g c c.of-parts.result.known c.frozen_head-found.new.key.value)) c.self.view_is
    (subst (λ (k : Known). OnlyLooked (flushing g c p.whole.known p.key.value) (flushing g c k c.frozen_head-found.new.key.value)) (sym c.of-parts.ensures)
    (learned_looked p.whole.known.world p.key.value c.frozen_head-found.new.key.value c.self.invariant.2 c.frozen_head-found.ensures.since (g.D.Disk.state p.store.disk) (g.D.Disk.reads p.store.disk) (g.D.Disk.size_of p.store.disk) (g.D.Disk.failures_of p.store.disk) p.whole.known.opened p.store.place p.topology p.progress))

pub returns-clause-went : goal.returns-clause-went
returns-clause-went g c =
    went_looked c.args.self.now (flushing g c c.of-parts.result.known c.frozen_head-found.new.key.value) c.requires.rests (looked g c)
    (ap (λ (k : Known). k.world.mark) c.of-parts.ensures ∙ ap (λ (v : Flushing). v.world.mark) c.self.view_is)
    (λ i node F. subst (λ (k : Known). IsFrozenAs k.world.net i node) (sym c.of-parts.ensures)
    (frozen_told c.self.inside.parts.whole.known.world c.self.inside.parts.key.value c.frozen_head-found.new.key.value c.self.invariant.2 c.frozen_head-found.ensures.since i node (subst (λ (v : Flushing). IsFrozenAs v.world.net i node) (sym c.self.view_is) F)))

pub returns-clause-goes : goal.returns-clause-goes
returns-clause-goes g c =
    goes_looked g.J.Naming.formatted g.J.Naming.before c.args.self.now (flushing g c c.of-parts.result.known c.frozen_head-found.new.key.value) c.known.ensures.disk (looked g c)

pub returns-clause-head : goal.returns-clause-head
returns-clause-head g c found = subst (λ (k : Known). IsFrozenHead k.world.net c.args.node c.frozen_head-found.new.out) (sym c.of-parts.ensures) (c.frozen_head-found.ensures.head found)
