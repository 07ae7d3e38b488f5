use Rattle.std.proofs.Common.{sym, ap, ◌∙◌}
use Rattle.tp_flush.specs.Flushing.{Flushing}
use Rattle.tp_flush.proofs.Endings.{broken_at}
use Rattle.tp_flush.proofs.flusher.Flusher.told.Goals as goal

pub returns : goal.returns
returns g c broken =
    c.self.invariant.9.was (broken_at c.self.inside.parts.store.broken (sym c.self.invariant.3.at ∙ ap (λ (v : Flushing). v.world.at) c.self.view_is ∙ broken))
