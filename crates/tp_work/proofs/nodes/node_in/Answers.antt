use Rattle.std.proofs.Common.{arith}
use Rattle.tp_work.proofs.Lower.{are_bytes, node_at}
use Rattle.tp_work.proofs.Made.{made_of}
use Rattle.tp_work.proofs.nodes.node_in.Goals as goal

pub returns-in-Ok : goal.returns-in-Ok
returns-in-Ok c =
    let bytes = are_bytes c.args.image.now (λ i. let fit = c.type_inv.image i in omega arith) in
    made_of c.args.spare c.args.image.now c.in-Ok.node c.requires
    (c.nodes_stay_nodes.ensures.spelt c.args.image.now (node_at c.args.image.now) bytes c.requires)
    c.in-Ok.ensures.reads c.in-Ok.ensures.frames
