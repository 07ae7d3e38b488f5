use Rattle.std.proofs.Common.{◌≡◌, ◌∙◌, ◌*◌, ◌/◌, ◌++◌, arith, ap, length}
use Rattle.tp_node.specs.StateWith.{state_with}
use Rattle.tp_node.proofs.Images.{HasPages, image_pages}
use Rattle.tp_node.proofs.node.Node.from_parts.Goals as goal
use Rattle.tp_node.proofs.node.Node.from_parts.Goals.{In-Some}

long : (c : In-Some) → length c.args.memory.items ≡ c.len-len.result
long c = omega (arith, c.args.memory.ok.0, c.len-len.ensures)

pages : (c : In-Some) → HasPages c.args.memory.items
pages c = image_pages (c.args.head.now ++ c.args.memory.items) (state_with c.in-Some.head c.args.memory.items) (c.in-Some.ensures c.args.memory.items (long c))

pub take_over-requires-clause-few : goal.take_over-requires-clause-few
take_over-requires-clause-few c =
    let i = (goal.at.take_over-requires-clause-few c).In-Some in
    let p = pages i in
    omega (arith, p.few, long i)

pub take_over-requires-clause-whole : goal.take_over-requires-clause-whole
take_over-requires-clause-whole c =
    let i = (goal.at.take_over-requires-clause-whole c).In-Some in
    (pages i).whole ∙ ap (λ n. 1024 * (n / 1024)) (long i)
