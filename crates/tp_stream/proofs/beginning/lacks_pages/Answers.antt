use Rattle.std.proofs.Common.{ℕ, ◌||◌, get_or, sym, ap, ◌∙◌}
use Rattle.std.specs.Prelude.{nat_lt}
use Rattle.tp_stream.proofs.Lower.{list_any, le-ltb, lt-ltb, list_any_at, list_any_more}
use Rattle.tp_stream.proofs.Tests.{none_passed}
use Rattle.tp_stream.proofs.beginning.lacks_pages.Goals as goal

pub returns-then-pages-spare : goal.returns-then-pages-spare
returns-then-pages-spare c =
    let few = λ (pages : ℕ). nat_lt pages c.args.spare in
    let counts = c.pages-counts.result.now in
    sym (ap (list_any few) (sym c.pages-counts.ensures.value)
    ∙ list_any_at few counts c.loop-pages.pages-index 0 c.loop-pages-test.true (lt-ltb (get_or counts c.loop-pages.pages-index 0) c.args.spare c.if-pages-spare.true))

pub loop-pages-preserved : goal.loop-pages-preserved
loop-pages-preserved c =
    let few = λ (pages : ℕ). nat_lt pages c.args.spare in
    let counts = c.pages-counts.result.now in
    list_any_more few counts c.loop-pages.pages-index 0 c.loop-pages-test.true
    ∙ ap (λ b. b || few (get_or counts c.loop-pages.pages-index 0)) c.loop-pages.invariant
    ∙ le-ltb (get_or counts c.loop-pages.pages-index 0) c.args.spare c.if-pages-spare.false

pub returns : goal.returns
returns c =
    let few = λ (pages : ℕ). nat_lt pages c.args.spare in
    sym (ap (list_any few) (sym c.pages-counts.ensures.value) ∙ none_passed few c.pages-counts.result.now c.loop-pages.pages-index c.loop-pages-test.false c.loop-pages.invariant)
