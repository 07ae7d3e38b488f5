use Rattle.std.proofs.Common.{◌∙◌, ◌++◌, ◌∷◌, [], ap, get_or, map, sym, take}
use Rattle.std.proofs.lemmas.List.{map-append, take_more}
use Rattle.tp_views.specs.Scene.{node_seen}
use Rattle.tp_views.proofs.waits.scene.nodes_seen.Goals as goal

pub loop-node-preserved : goal.loop-node-preserved
loop-node-preserved c =
    let n = c.loop-node.node-index in
    let all = c.args.nodes.now in
    let here = get_or all n c.node-item.result in
    c.in_ok-push.ensures.items
    ∙ ap (λ xs. xs ++ c.node_seen.result ∷ []) c.loop-node.invariant
    ∙ ap (λ x. map (λ node. node_seen node.live) (take n all) ++ x ∷ []) (c.node_seen.ensures ∙ ap (λ node. node_seen node.live) c.node-item.is)
    ∙ sym (map-append (λ node. node_seen node.live) (take n all) (here ∷ []))
    ∙ ap (map (λ node. node_seen node.live)) (sym (take_more all n c.node-item.result c.loop-node-test.true))
