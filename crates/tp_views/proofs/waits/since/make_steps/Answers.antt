use Rattle.std.specs.Prelude.{◌≡◌, None}
use Rattle.std.proofs.Common.{◌∙◌}
use Rattle.tp_views.proofs.Lower.{LacksFrames, node_ranges, node_steps, lacking_frozen, memory_kept}
use Rattle.tp_views.proofs.Walks.{made_all}
use Rattle.tp_views.proofs.waits.since.make_steps.Goals as goal

pub returns-clause-node : goal.returns-clause-node
returns-clause-node c =
    let was = c.args.node.now.live in
    let node = c.run-ran.new.self in
    let thawed : node.frozen ≡ None = c.run-ran.ensures.kept ∙ c.requires.thawed in
    let never : LacksFrames (memory_kept node) (node_ranges node.live) → ⊥ = λ lacks. let some = lacking_frozen node (node_ranges node.live) lacks in absurd (cc) in
    made_all c.args.steps c.run-ran.result.count c.run-ran.result.why _ was node.live _ c.run-ran.ensures.why never c.run-ran.ensures.steps

pub returns-clause-bytes : goal.returns-clause-bytes
returns-clause-bytes c = (node_steps c.run-ran.result.count c.args.node.now.live _ c.requires.bytes c.run-ran.ensures.steps).0
