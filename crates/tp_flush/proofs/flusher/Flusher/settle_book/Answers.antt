use Rattle.std.proofs.Common.{sym, ap, subst, ◌∙◌}
use Rattle.tp_flush.proofs.Lower.{AreTrue, IsFirst}
use Rattle.tp_flush.specs.Flushing.{Flushing, position}
use Rattle.tp_flush.proofs.Ahead.{book_ahead}
use Rattle.tp_flush.proofs.flusher.Flusher.settle_book.Goals as goal

pub returns-clause-ahead : goal.returns-clause-ahead
returns-clause-ahead g c k began =
    book_ahead g.J.Naming.formatted g.J.Naming.before g.J.Naming.first c.args.held.now c.self.inside.parts.key.value c.args.self.now.world (c.known.ensures.reached (subst (λ (v : Flushing). AreTrue v.reads) c.self.view_is k) began)
    (subst (λ (v : Flushing). IsFirst c.self.inside.parts.key.value v.world) c.self.view_is c.self.invariant.2) c.compare.ensures.since

pub returns-clause-broken : goal.returns-clause-broken
returns-clause-broken g c =
    ap (λ (v : Flushing). v.world.at) (sym c.self.view_is) ∙ c.self.invariant.3.at
    ∙ ap position (sym c.self.invariant.9.shows ∙ sym c.compare.ensures.since.broken)
