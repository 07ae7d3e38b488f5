use Rattle.std.proofs.Common.{◌≡◌, ◌∙◌, ap, sym, subst, arith}
use Rattle.tp_flush.proofs.Lower.{AreTrue, leb-true, next_in_book, Stage, IsFirst, ToldSince, told_of}
use Rattle.tp_flush.specs.Flushing.{Flushing}
use Rattle.tp_flush.proofs.All.{slips_are_all}
use Rattle.tp_flush.proofs.flusher.Flusher.settle_all.Goals.{then-has_all, else-has_all}
use Rattle.tp_flush.proofs.flusher.Flusher.settle_all.Goals as goal

pub returns-clause-all : goal.returns-clause-all
returns-clause-all g c is k began =
    let w = c.args.self.now.world in
    let next : c.next.result ≡ next_in_book c.args.held.now.book = c.next.ensures ∙ ap next_in_book (c.book.ensures ∙ ap (λ (s : Stage). s.book) c.has_all-has_all.ensures.same.0) in
    let mark = c.mark.ensures in
    elim c.if-has_all.branch [
      | then-has_all b ↦
          let up = leb-true c.next.result c.mark.result (sym b.result-is ∙ is) in
          slips_are_all g.J.Naming.formatted g.J.Naming.before g.J.Naming.first c.args.held.now c.self.inside.parts.key.value w c.args.seat.now (c.known.ensures.reached (subst (λ (v : Flushing). AreTrue v.reads) c.self.view_is k) began)
          (subst (λ (v : Flushing). IsFirst c.self.inside.parts.key.value v.world) c.self.view_is c.self.invariant.2)
          (subst (λ stage. ToldSince c.self.inside.parts.key.value (told_of g.J.Naming.before g.J.Naming.first stage)) c.has_all-has_all.ensures.same.0 c.compare.ensures.since) c.known-2.ensures.tied
          (omega (arith, up, next, mark)) (c.has_all-has_all.ensures.each b.if-has_all.true)
      | else-has_all b ↦ let bad = sym b.if-has_all.false ∙ sym b.result-is ∙ is in absurd (cc)
    ]
