use Rattle.std.proofs.Common.{◌≡◌, sym, ap, ◌∙◌, arith, map, Some, slice_get, option_map}
use Rattle.tp_replay.proofs.Lower.{slice_get-get_or, slice_get-map, node_at, NodeContents, node_at-image}
use Rattle.tp_replay.proofs.network.FlatNetwork.image.Goals as goal

pub returns-clause-again : goal.returns-clause-again
returns-clause-again c =
    let nodes = c.self.inside.nodes.items in
    let node = c.index_mut.result.now in
    let live = λ (node : NodeContents). node.live in
    let at : slice_get nodes c.args.node ≡ Some node = slice_get-get_or nodes c.args.node node (omega arith) ∙ ap Some (sym c.index_mut.ensures.value) in
    let there : slice_get (map live nodes) c.args.node ≡ Some node.live = slice_get-map live nodes c.args.node ∙ ap (option_map live) at in
    let spelt = (c.self.invariant.flat.nodes c.args.node node.live there).image in
    rw (← c.self.view_is) (ap (λ bytes. Some (node_at bytes)) c.in_ok-image_of.ensures.image ∙ ap Some (node_at-image node.live spelt) ∙ sym there)
