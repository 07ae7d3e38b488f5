use Rattle.std.specs.Prelude.{not, ℕ, ◌+◌, List, drop}
use Rattle.std.proofs.Common.{◌∙◌, sym, ap}
use Rattle.tp_views.proofs.Lower.{at_drop_more, drop_all, Token}
use Rattle.tp_views.specs.EntriesTraced.{took_all}
use Rattle.tp_views.proofs.EntriesTraced.{took_goes, took_none, took_stops}
use Rattle.tp_views.proofs.Walks.{heard_goes, heard_stops}
use Rattle.tp_views.proofs.waits.since.take_each.Goals as goal

-- a token more
pub loop-one-preserved : goal.loop-one-preserved
loop-one-preserved c =
    let node = c.loop-one.node.live in
    let next = c.trace_take.new.node.live in
    let tokens = c.args.tokens.now in
    let i = c.loop-one.one-index in
    let here = at_drop_more (λ (ys : List (ℕ × Token)). ys) tokens i _ c.loop-one-test.true in
    let goes = heard_goes c.trace_take.result node next _ _ (c.is_none.ensures ∙ ap not c.if-is_none.false) c.trace_take.ensures.hears in
    record {
      took = sym (ap (λ ms. took_all ms node) here ∙ took_goes _ (drop (i + 1) tokens) node next goes) ∙ c.loop-one.invariant.took;
      thawed = c.trace_take.ensures.thawed;
      bytes = c.trace_take.ensures.bytes;
    }

-- the node can't take it
pub returns-then-is_none-clause-node : goal.returns-then-is_none-clause-node
returns-then-is_none-clause-node c =
    let node = c.loop-one.node.live in
    let next = c.trace_take.new.node.live in
    let tokens = c.args.tokens.now in
    let i = c.loop-one.one-index in
    let here = at_drop_more (λ (ys : List (ℕ × Token)). ys) tokens i _ c.loop-one-test.true in
    let stops = heard_stops c.trace_take.result node next _ _ (c.is_none.ensures ∙ ap not c.if-is_none.true) c.trace_take.ensures.hears in
    stops.1 ∙ sym (ap (λ ms. took_all ms node) here ∙ took_stops _ (drop (i + 1) tokens) node stops.0) ∙ c.loop-one.invariant.took

pub returns-clause-node : goal.returns-clause-node
returns-clause-node c =
    let none = drop_all c.loop-one.one-index c.args.tokens.now c.loop-one-test.false in
    sym (ap (λ ms. took_all ms c.loop-one.node.live) none ∙ took_none c.loop-one.node.live) ∙ c.loop-one.invariant.took
