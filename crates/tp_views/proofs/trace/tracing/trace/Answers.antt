use Rattle.std.proofs.Common.{arith}
use Rattle.tp_views.proofs.Lower.{node_of_bytes, are_bytes}
use Rattle.tp_views.proofs.trace.tracing.trace.Goals as goal

pub put_steps-requires : goal.put_steps-requires
put_steps-requires g c =
    let bytes = are_bytes c.args.image.now (λ i. let fit = c.type_inv.image i in omega arith) in
    record { thawed = c.in-Ok.ensures.1; bytes = node_of_bytes c.args.image.now c.in-Ok.node.live bytes c.in-Ok.ensures.0 }
