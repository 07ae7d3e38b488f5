use Rattle.std.proofs.Common.{arith}
use Rattle.tp_node.specs.StateWith.{state_with}
use Rattle.tp_node.proofs.Images.{HasPages, image_pages}
use Rattle.tp_node.proofs.node.Node.from_image.Goals as goal
use Rattle.tp_node.proofs.node.Node.from_image.Goals.{In-Some}

pages : (c : In-Some) → HasPages c.in-Some.memory.now
pages c = image_pages c.args.bytes.now (state_with c.in-Some.head c.in-Some.memory.now) c.in-Some.ensures

pub reserve-requires-clause-few : goal.reserve-requires-clause-few
reserve-requires-clause-few c =
    let p = pages (goal.at.reserve-requires-clause-few c).In-Some in
    omega (arith, p.few)

pub reserve-requires-clause-whole : goal.reserve-requires-clause-whole
reserve-requires-clause-whole c = (pages (goal.at.reserve-requires-clause-whole c).In-Some).whole
