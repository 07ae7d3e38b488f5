use Rattle.std.proofs.Common.{◌≡◌, rules, arith, subst}
use Rattle.std.specs.Prelude.{IfSome}
use Rattle.tp_shared.specs.Pieces.{ArePagesOf}
use Rattle.tp_shared.proofs.Frozen.{pages_more, pages_none}
use Rattle.tp_shared.proofs.flusher.pieces.copy_pages.Goals as goal

pub loop-k-init : goal.loop-k-init
loop-k-init c = record {
  long = search rules;
  pages = pages_none c.args.node.now.frozen c.args.first _;
}

pub loop-k-preserved : goal.loop-k-preserved
loop-k-preserved c = record {
  long = search rules;
  pages =
      pages_more c.args.node.now.frozen c.args.first c.loop-k.k c.pages.result c.loop-k.out c.frozen_page.new.out (search rules) (omega arith) c.pages.ensures.frozen c.loop-k.invariant.pages
      c.frozen_page.ensures;
}

pub returns-clause-pages : goal.returns-clause-pages
returns-clause-pages c =
    let all : c.loop-k.k ≡ c.min-count.result = omega arith in
    subst (λ n. IfSome c.args.node.now.frozen (λ kept. ArePagesOf kept.memory c.args.first n c.loop-k.out)) all c.loop-k.invariant.pages
