use Rattle.std.specs.Prelude.{◌≡◌, length, map, replicate}
use Rattle.std.proofs.Common.{◌∙◌, sym, ap, arith}
use Rattle.tp_views.proofs.Lower.{length-map, live_node, length-replicate}
use Rattle.tp_views.specs.Since.{walked}
use Rattle.tp_views.proofs.waits.since.nodes_since.Goals as goal

pub walk-requires-clause-alike : goal.walk-requires-clause-alike
walk-requires-clause-alike c =
    let size : c.len.result ≡ length c.args.nodes.items = omega (arith, c.len.ensures, c.args.nodes.ok.0) in
    ap length (c.in_ok-found.ensures.items_if_clones_equal (λ y e. cc)) ∙ length-replicate _ _ ∙ size

pub returns : goal.returns
returns c =
    let nodes = c.args.nodes.items in
    let size : c.len.result ≡ length nodes = omega (arith, c.len.ensures, c.args.nodes.ok.0) in
    c.walk.ensures
    ∙ ap (walked c.args.wires.now c.args.seen.now c.args.kept.now (map live_node nodes))
    (c.in_ok-found.ensures.items_if_clones_equal (λ y e. cc) ∙ (λ i. replicate ((size ∙ sym (length-map nodes live_node)) i) (c.all_before.ensures i)))
