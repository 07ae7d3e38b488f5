use Rattle.std.proofs.Common.{◌∙◌, ◌+◌, ◌++◌, ◌∷◌, ap, sym, append_assoc, string_bytes, drop, map}
use Rattle.std.proofs.lemmas.List.{at_drop_more}
use Rattle.tp_views.specs.Json.{json_items}
use Rattle.tp_views.specs.Status.{node_items}
use Rattle.tp_views.proofs.text.status_text.push_node_items.Goals as goal

pub loop-number-preserved : goal.loop-number-preserved
loop-number-preserved c =
    let n = c.loop-number.number in
    let all = c.args.nodes.now in
    let rest = json_items (n + 1) (node_items (n + 1) c.args.wires.now c.args.count c.args.kept.now (map (λ x. x.live) (drop (n + 1) all))) in
    let here = at_drop_more (λ xs. xs) all n c.index-nodes-number.result c.loop-number-test.true ∙ ap (λ x. x ∷ drop (n + 1) all) (sym c.index-nodes-number.is) in
    ap (λ bytes. bytes ++ rest) c.in_ok-push_node_item.ensures
    ∙ append_assoc (string_bytes c.loop-number.text) _ rest
    ∙ ap (λ xs. string_bytes c.loop-number.text ++ json_items n (node_items n c.args.wires.now c.args.count c.args.kept.now (map (λ x. x.live) xs))) (sym here)
    ∙ c.loop-number.invariant
