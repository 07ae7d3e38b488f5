use Rattle.std.proofs.Common.{get_or, ap, subst, sym}
use Rattle.tp_flush.proofs.Lower.{AreTrue, content_beside}
use Rattle.tp_flush.specs.Flushing.{AreGone, KeepsCopy, Flushing}
use Rattle.tp_flush.specs.declared.progress.Progress.{Progress}
use Rattle.tp_flush.specs.Copying.{IsGone, IsPartOut}
use Rattle.tp_flush.proofs.Closed.{out_more}
use Rattle.tp_flush.proofs.Gone.{gone_more}
use Rattle.tp_flush.proofs.Goings.{goes_marked}
use Rattle.tp_flush.proofs.flusher.Flusher.put_out.Goals as goal

pub returns-clause-goes : goal.returns-clause-goes
returns-clause-goes g c =
    goes_marked g.J.Naming.formatted g.J.Naming.before c.args.self.now _ c.known.ensures.disk (ap (λ (v : Flushing). v.world) c.self.view_is) (ap (λ (v : Flushing). v.state) c.self.view_is)
    (ap (λ (v : Flushing). v.reads) c.self.view_is)
    (record { opened = ap (λ (v : Flushing). v.opened) c.self.view_is; size = ap (λ (v : Flushing). v.size) c.self.view_is; topology = ap (λ (v : Flushing). v.topology) c.self.view_is })

pub invariant_of-self : goal.invariant_of-self
invariant_of-self g c =
    let p = c.self.inside.parts in (
      c.self.invariant.0,
      c.self.invariant.1,
      c.self.invariant.2,
      c.self.invariant.3,
      subst (λ (q : Progress). KeepsCopy (AreTrue (g.D.Disk.reads p.store.disk)) p.whole.known.world.net (g.D.Disk.state p.store.disk) p.store.place p.store.broken p.topology q) (sym c.put_out.ensures.with)
          (out_more (AreTrue (g.D.Disk.reads p.store.disk)) p.whole.known.world.net (g.D.Disk.state p.store.disk) p.store.place p.store.broken p.topology p.progress c.args.node c.self.invariant.4
          (subst (λ (v : Flushing). AreTrue v.reads → IsPartOut v.topology v.world.net (content_beside v.place v.state) c.args.node (get_or v.topology.pages c.args.node 0)) (sym c.self.view_is) c.requires.stands)),
      c.self.invariant.5,
      c.self.invariant.6,
      c.self.invariant.7,
      c.self.invariant.8,
      c.self.invariant.9,
      subst (λ (q : Progress). AreGone p.whole.known.world.net p.key.value.frozen q) (sym c.put_out.ensures.with)
          (gone_more p.whole.known.world.net p.key.value.frozen p.progress c.args.node c.self.invariant.10 (subst (λ (v : Flushing). IsGone v.world.net v.frozen c.args.node) (sym c.self.view_is) c.requires.gone)),
    )
