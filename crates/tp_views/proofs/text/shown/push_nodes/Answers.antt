use Rattle.std.proofs.Common.{◌∙◌, ◌+◌, ◌++◌, ◌∷◌, ap, sym, append_assoc, string_bytes, drop, map}
use Rattle.std.proofs.lemmas.List.{at_drop_more}
use Rattle.tp_views.specs.Shown.{nodes_text}
use Rattle.tp_views.proofs.text.shown.push_nodes.Goals as goal

pub loop-number-preserved : goal.loop-number-preserved
loop-number-preserved c =
    let n = c.loop-number.number in
    let all = c.args.nodes.now in
    let rest = nodes_text c.args.json (n + 1) (map (λ x. x.live) (drop (n + 1) all)) in
    let here = at_drop_more (λ xs. xs) all n c.index-nodes-number.result c.loop-number-test.true ∙ ap (λ x. x ∷ drop (n + 1) all) (sym c.index-nodes-number.is) in
    ap (λ bytes. bytes ++ rest) c.in_ok-push_node.ensures ∙ append_assoc (string_bytes c.loop-number.text) _ rest
    ∙ ap (λ xs. string_bytes c.loop-number.text ++ nodes_text c.args.json n (map (λ x. x.live) xs)) (sym here)
    ∙ c.loop-number.invariant
