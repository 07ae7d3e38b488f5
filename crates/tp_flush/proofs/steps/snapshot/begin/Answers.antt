use Rattle.std.proofs.Common.{◌≡◌, [], ◌∷◌, ◌++◌, length, sym, subst, ap, ◌∙◌, Result, Ok, Err, OnErr}
use Rattle.std.specs.Prelude.{IfOk}
use Rattle.tp_flush.proofs.Lower.{Refusal, after_begin, Stage}
use Rattle.tp_flush.specs.Refused.{BegunIn}
use Rattle.tp_flush.proofs.steps.snapshot.begin.Goals as goal

begun_ok : (r : Result Unit Refusal) (old new : Stage) → IfOk r (λ done. new ≡ record old { book = after_begin old.book }) → IfOk r (λ done. new.book ≡ after_begin old.book)
begun_ok (Ok x) old new is = ap (λ (s : Stage). s.book) is
begun_ok (Err e) old new is = tt

begun_err : (r : Result Unit Refusal) (old new : Stage) → OnErr r (new ≡ old) → OnErr r (new.book ≡ old.book)
begun_err (Ok x) old new is = tt
begun_err (Err e) old new is = ap (λ (s : Stage). s.book) is

pub returns-clause-begun : goal.returns-clause-begun
returns-clause-begun g c =
    let E = c.begin_snapshot-answer.ensures in
    let left = c.begin_snapshot-answer.new.self.book in
    let shown =
    c.show-2.ensures.seen
    ∙ ap (λ xs. xs ++ left ∷ []) (c.show.ensures.seen ∙ ap (λ xs. xs ++ c.args.held.now.book ∷ []) c.new-seen.ensures ∙ ap (λ (s : Stage). s.book ∷ []) (sym c.show.ensures.same)) in
    subst (λ seen. BegunIn g.J.Naming.start seen c.begin_snapshot-answer.result) (sym shown)
    (record {
      nodes = ap (λ (s : Stage). length s.book.state.start.nodes) c.show.ensures.same ∙ c.known.ensures.nodes;
      ports = ap (λ (s : Stage). length s.book.state.ports) c.show.ensures.same ∙ c.known.ensures.ports;
      exact = E.answer;
      ok = begun_ok c.begin_snapshot-answer.result c.show.new.self c.begin_snapshot-answer.new.self E.ok;
      err = begun_err c.begin_snapshot-answer.result c.show.new.self c.begin_snapshot-answer.new.self E.err;
    })
