use Rattle.std.proofs.Common.{length, map, sym, ap, ◌∙◌, Some}
use Rattle.tp_replay.proofs.Lower.{map-id, slice_get-get_or, YieldsList-from_vec, YieldsList-end, YieldsList-turn, image}
use Rattle.tp_replay.proofs.image.images_taken.Goals as goal

pub image_of-requires : goal.image_of-requires
image_of-requires c =
    let nodes = c.args.nodes.items in
    let gives = c.into_iter-node-iterator.ensures.into_iter_gives in
    let turn = YieldsList-turn (YieldsList-from_vec {s = c.into_iter-node-iterator.result} nodes gives.0 (gives.1 ∙ c.args.nodes.ok.0)) c.loop-node.yielded c.loop-node.node-iterator c.loop-node.yielded_by c.next.result c.next.new.self c.in-Some.node c.in-Some.is c.next.ensures.steps in
    c.requires (length c.loop-node.yielded) c.in-Some.node (slice_get-get_or nodes (length c.loop-node.yielded) c.in-Some.node turn.0 ∙ ap Some (sym turn.1))

pub returns : goal.returns
returns c =
    let nodes = c.args.nodes.items in
    let gives = c.into_iter-node-iterator.ensures.into_iter_gives in
    let all = YieldsList-end (YieldsList-from_vec {s = c.into_iter-node-iterator.result} nodes gives.0 (gives.1 ∙ c.args.nodes.ok.0)) c.loop-node.yielded c.loop-node.node-iterator c.loop-node.yielded_by c.next.result c.next.new.self c.in-None.is c.next.ensures.steps in
    c.loop-node.invariant ∙ ap (map (λ node. image node.live)) (sym (map-id c.loop-node.yielded) ∙ all.0)
