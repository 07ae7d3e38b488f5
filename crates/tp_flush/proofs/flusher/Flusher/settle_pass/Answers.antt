use Rattle.std.proofs.Common.{sym, subst}
use Rattle.std.specs.Prelude.{drop}
use Rattle.std.specs.List.{AllByRecursion}
use Rattle.tp_flush.specs.Flushing.{Flushing}
use Rattle.tp_flush.specs.Known.{Began}
use Rattle.tp_flush.specs.Risen.{WasStored}
use Rattle.tp_flush.proofs.Rises.{rises_seen}
use Rattle.tp_flush.proofs.flusher.Flusher.settle_pass.Goals as goal

pub returns-clause-rises : goal.returns-clause-rises
returns-clause-rises g c k began =
    let p = c.self.inside.parts in
    let rises = c.args.pass.now.rises in
    subst (λ (v : Flushing). AllByRecursion (WasStored g.J.Naming.formatted v.world.journal v.state) (drop 1 rises)) c.self.view_is
    (rises_seen g.J.Naming.formatted p.whole.known.world (g.D.Disk.state p.store.disk) rises p.raiser.rises c.settle.ensures.risen.0
    (c.self.invariant.3.rises k (subst (λ (v : Flushing). Began g.J.Naming.formatted g.J.Naming.before v.opened) (sym c.self.view_is) began)))
