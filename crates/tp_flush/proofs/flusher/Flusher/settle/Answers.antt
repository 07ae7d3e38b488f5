use Rattle.std.proofs.Common.{sym, subst, ◌∙◌}
use Rattle.tp_flush.proofs.Lower.{AreTrue, MayBe}
use Rattle.tp_flush.specs.Flushing.{Flushing}
use Rattle.tp_flush.specs.Known.{Began}
use Rattle.tp_flush.specs.Settled.{SlipsStand}
use Rattle.tp_flush.proofs.Settling.{below_more, now_recovers, recovers_with, stand_among}
use Rattle.tp_flush.proofs.flusher.Flusher.settle.Goals as goal

pub returns-clause-recovers : goal.returns-clause-recovers
returns-clause-recovers g c k began before some behind is below left may =
    let w = c.args.self.now.world in
    let same = c.settle_pass.ensures.same.0 in
    let here = subst (λ (v : Flushing). AreTrue v.reads) (c.settle_under.ensures.same.0 ∙ same) k in
    let reached = c.known.ensures.reached here began in
    recovers_with g.J.Naming.formatted w.journal w.mark some left
    (now_recovers g.J.Naming.formatted w reached left (subst (λ m. MayBe m left) (sym (c.known.ensures.disk here)) may))
    (below_more c.args.pass.now.at w.mark some c.settle_pass.ensures.mark below)
    (
    stand_among w.journal c.args.seat.now before some behind is
    (
    subst (λ (v : Flushing). SlipsStand v.world.journal c.args.seat.now) same
    (c.settle_under.ensures.stand k (subst (λ (v : Flushing). Began g.J.Naming.formatted g.J.Naming.before v.opened) (sym same) began))
    )
    )
