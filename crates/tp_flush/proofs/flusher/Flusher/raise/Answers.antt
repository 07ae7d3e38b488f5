use Rattle.std.proofs.Common.{refl, sym, subst, ap, ◌∙◌, arith, ◌≤◌}
use Rattle.std.specs.Prelude.{max}
use Rattle.tp_flush.proofs.Lower.{AreTrue, RaiserValue, State, t414, device_areas, RunLeads, IsFirst}
use Rattle.tp_flush.specs.Known.{Known}
use Rattle.tp_flush.specs.Flushing.{AreGone, KeepsCopy, Flushing, IsOfDevice, KeepsWorld, OnlyLooked}
use Rattle.tp_flush.proofs.Devices.{raise_device}
use Rattle.tp_flush.proofs.Kept.{raise_keeps}
use Rattle.tp_flush.proofs.Goings.{goes_looked}
use Rattle.tp_flush.proofs.Looks.{raises}
use Rattle.tp_flush.proofs.flusher.Flusher.raise.Given as given
use Rattle.tp_flush.proofs.flusher.Flusher.raise.Goals as goal

pub raise-requires : goal.raise-requires
raise-requires g c =
    let W = c.self.invariant.3 in
    record { mark = c.self.invariant.1; stored = W.next; disk = W.disk; reached = W.reached }

kept : (g : given.Over) (c : goal.After-raised g)
    → KeepsWorld (AreTrue (g.D.Disk.reads c.self.inside.parts.store.disk)) g.J.Naming.formatted g.J.Naming.before c.of-parts.result.known (g.D.Disk.state c.self.inside.parts.store.disk) c.self.inside.parts.store.place c.self.inside.parts.store.broken c.raise.new.self
kept g c =
    let p = c.self.inside.parts in
    let s : State = g.D.Disk.state p.store.disk in
    subst (λ (k : Known). KeepsWorld (AreTrue (g.D.Disk.reads p.store.disk)) g.J.Naming.formatted g.J.Naming.before k s p.store.place p.store.broken c.raise.new.self) (sym c.of-parts.ensures)
    (subst (KeepsWorld (AreTrue (g.D.Disk.reads p.store.disk)) g.J.Naming.formatted g.J.Naming.before (record { world = record p.whole.known.world { mark = max p.whole.known.world.mark p.whole.known.world.stored }; opened = p.whole.known.opened }) s p.store.place p.store.broken)
    (sym c.raise.ensures)
    (raise_keeps (AreTrue (g.D.Disk.reads p.store.disk)) g.J.Naming.formatted g.J.Naming.before p.whole.known s p.store.place p.store.broken p.raiser c.self.invariant.3))

pub invariant_of-self : goal.invariant_of-self
invariant_of-self g c =
    let p = c.self.inside.parts in
    let F = c.self.invariant.2 in (
      c.self.invariant.0,
      ap (λ (r : RaiserValue). r.mark) c.raise.ensures ∙ c.self.invariant.1,
      subst (λ (k : Known). IsFirst p.key.value k.world) (sym c.of-parts.ensures) (record { net = F.net; base = F.base; journal = F.journal }),
      kept g c,
      subst (λ (k : Known). KeepsCopy (AreTrue (g.D.Disk.reads p.store.disk)) k.world.net (g.D.Disk.state p.store.disk) p.store.place p.store.broken p.topology p.progress) (sym c.of-parts.ensures) c.self.invariant.4,
      subst (λ (k : Known). IsOfDevice (AreTrue (g.D.Disk.reads p.store.disk)) g.J.Naming.room k.world (g.D.Disk.state p.store.disk) p.store.place p.store.broken p.topology) (sym c.of-parts.ensures)
          (raise_device (AreTrue (g.D.Disk.reads p.store.disk)) g.J.Naming.room p.whole.known.world (g.D.Disk.state p.store.disk) p.store.place p.store.broken p.topology c.self.invariant.5),
      subst (λ (k : Known). g.J.Naming.first ≤ k.world.stored) (sym c.of-parts.ensures) c.self.invariant.6,
      subst (λ (k : Known). p.key.value.numbered_from ≤ k.world.stored) (sym c.of-parts.ensures) c.self.invariant.7,
      c.self.invariant.8,
      c.self.invariant.9,
      subst (λ (k : Known). AreGone k.world.net p.key.value.frozen p.progress) (sym c.of-parts.ensures) c.self.invariant.10,
    )

pub returns-clause-mark : goal.returns-clause-mark
returns-clause-mark g c = c.raised.ensures ∙ (kept g c).mark

pub returns-clause-reaches : goal.returns-clause-reaches
returns-clause-reaches g c =
    omega (arith, c.raised.ensures, ap (λ (r : RaiserValue). r.at) c.raise.ensures, c.self.invariant.3.next, ap (λ (v : Flushing). v.world.stored) c.self.view_is)

abbrev flushing : (g : given.Over) (c : goal.After-raised g) → Known → Flushing
flushing g c k =
    let p = c.self.inside.parts in
    record {
      world = k.world;
      state = g.D.Disk.state p.store.disk;
      reads = g.D.Disk.reads p.store.disk;
      size = g.D.Disk.size_of p.store.disk;
      failures = g.D.Disk.failures_of p.store.disk;
      opened = k.opened;
      place = p.store.place;
      topology = p.topology;
      progress = p.progress;
      frozen = p.key.value.frozen;
    }

looked : (g : given.Over) (c : goal.After-raised g) → OnlyLooked c.args.self.now (flushing g c c.of-parts.result.known)
looked g c =
    let p = c.self.inside.parts in
    let L : OnlyLooked (flushing g c p.whole.known) (flushing g c c.of-parts.result.known) = record {
      led = subst (λ (k : Known). RunLeads t414 device_areas p.whole.known.world k.world) (sym c.of-parts.ensures) (raises p.whole.known.world);
      at = ap (λ (k : Known). k.world.at) c.of-parts.ensures;
      stored = ap (λ (k : Known). k.world.stored) c.of-parts.ensures;
      disk = ap (λ (k : Known). k.world.disk) c.of-parts.ensures;
      state = refl;
      reads = refl;
      size = refl;
      failures = refl;
      opened = ap (λ (k : Known). k.opened) c.of-parts.ensures;
      place = refl;
      topology = refl;
      progress = refl;
    } in
    subst (λ (v : Flushing). OnlyLooked v (flushing g c c.of-parts.result.known)) c.self.view_is L

pub returns-clause-looked : goal.returns-clause-looked
returns-clause-looked g c = looked g c

pub returns-clause-net : goal.returns-clause-net
returns-clause-net g c = (ap (λ (k : Known). k.world.net) c.of-parts.ensures ∙ ap (λ (v : Flushing). v.world.net) c.self.view_is, ap (λ (v : Flushing). v.frozen) c.self.view_is)

pub returns-clause-goes : goal.returns-clause-goes
returns-clause-goes g c =
    goes_looked g.J.Naming.formatted g.J.Naming.before c.args.self.now (flushing g c c.of-parts.result.known) c.known.ensures.disk (looked g c)

pub returns-clause-up : goal.returns-clause-up
returns-clause-up g c =
    omega (arith, c.raised.ensures, ap (λ (r : RaiserValue). r.at) c.raise.ensures, c.self.invariant.3.mark, ap (λ (v : Flushing). v.world.mark) c.self.view_is)
