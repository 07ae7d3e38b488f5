use Rattle.std.proofs.Common.{subst}
use Rattle.tp_flush.specs.Flushing.{AreGone, Flushing}
use Rattle.tp_flush.proofs.flusher.Flusher.known.Goals as goal

pub returns-clause-gone : goal.returns-clause-gone
returns-clause-gone g c = subst (λ (v : Flushing). AreGone v.world.net v.frozen v.progress) c.self.view_is c.self.invariant.10
