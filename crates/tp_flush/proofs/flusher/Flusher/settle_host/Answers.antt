use Rattle.std.proofs.Common.{subst}
use Rattle.tp_flush.proofs.Lower.{AreTrue, IsFirst, ToldSince, told_of}
use Rattle.tp_flush.specs.Flushing.{Flushing}
use Rattle.tp_flush.proofs.Handing.{handed_front}
use Rattle.tp_flush.proofs.Settling.{length-journal}
use Rattle.tp_flush.proofs.flusher.Flusher.settle_host.Goals as goal

pub returns-clause-handed : goal.returns-clause-handed
returns-clause-handed g c k began =
    let w = c.args.self.now.world in
    handed_front g.J.Naming.before g.J.Naming.first c.args.held.now c.self.inside.parts.key.value w
    (subst (λ (v : Flushing). IsFirst c.self.inside.parts.key.value v.world) c.self.view_is c.self.invariant.2)
    (subst (λ stage. ToldSince c.self.inside.parts.key.value (told_of g.J.Naming.before g.J.Naming.first stage)) c.compare_host.ensures.same.0 c.compare.ensures.since) c.known-2.ensures.tied
    (length-journal g.J.Naming.formatted w (c.known.ensures.reached (subst (λ (v : Flushing). AreTrue v.reads) c.self.view_is k) began)) c.args.host.now c.compare_host.ensures.all
