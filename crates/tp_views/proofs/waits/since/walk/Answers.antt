use Rattle.std.specs.Prelude.{◌≡◌, ◌+◌, ◌∷◌, drop, map}
use Rattle.std.proofs.Common.{◌∙◌, sym}
use Rattle.tp_views.proofs.Lower.{drop_all, live_node}
use Rattle.tp_views.specs.Since.{walked}
use Rattle.tp_views.proofs.EntriesTraced.{at_item}
use Rattle.tp_views.proofs.Walks.{walked_more, walked_none}
use Rattle.tp_views.proofs.waits.since.walk.Goals as goal

pub loop-one-preserved : goal.loop-one-preserved
loop-one-preserved c =
    let wires = c.args.wires.now in
    let seen = c.args.seen.now in
    let kept = c.args.kept.now in
    let i = c.loop-one.one-index in
    let nodes = map live_node c.loop-one.nodes.items in
    let found = c.loop-one.found.items in
    let one = c.one-item.result in
    let here : drop i kept ≡ one ∷ drop (i + 1) kept = at_item kept i one c.loop-one-test.true c.one-item.is in
    let more = walked_more wires seen (drop i kept) (drop (i + 1) kept) one nodes found here in
    record {
      walked = (λ k. walked wires seen (drop (i + 1) kept) (c.walk_entry.ensures.nodes k) (c.walk_entry.ensures.found k)) ∙ sym more ∙ c.loop-one.invariant.walked;
      alike = c.walk_entry.ensures.alike;
      thawed = c.walk_entry.ensures.thawed;
      bytes = c.walk_entry.ensures.bytes;
    }

pub returns : goal.returns
returns c =
    sym (walked_none c.args.wires.now c.args.seen.now _ (map live_node c.loop-one.nodes.items) c.loop-one.found.items (drop_all c.loop-one.one-index c.args.kept.now c.loop-one-test.false))
    ∙ c.loop-one.invariant.walked
