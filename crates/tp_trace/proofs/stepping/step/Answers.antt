use Rattle.std.proofs.Common.{◌≡◌, ◌∙◌, None, subst, sym, nat_eq}
use Rattle.tp_trace.proofs.Lower.{node_steps, node_ranges, LacksFrames, lacking_frozen, memory_kept}
use Rattle.tp_trace.proofs.OneStep.{one_step, step_sends}
use Rattle.tp_trace.specs.Steps.{Stepped}
use Rattle.tp_trace.proofs.stepping.step.Goals as goal

pub returns-clause-stepped : goal.returns-clause-stepped
returns-clause-stepped c =
    let was = c.args.node.now.live in
    let node = c.run.new.self in
    let thawed : node.frozen ≡ None = c.run.ensures.kept ∙ c.requires.thawed in
    let never : LacksFrames (memory_kept node) (node_ranges node.live) → ⊥ = λ lacks. let some = lacking_frozen node (node_ranges node.live) lacks in absurd (cc) in
    subst (λ count. Stepped (nat_eq count 1) was node.live) (sym c.count.ensures)
    (one_step c.run.result.count c.run.result.why _ was node.live _ c.run.ensures.why never c.run.ensures.steps)

pub returns-clause-bytes : goal.returns-clause-bytes
returns-clause-bytes c = (node_steps c.run.result.count c.args.node.now.live _ c.requires.bytes c.run.ensures.steps).0

pub returns-clause-sent : goal.returns-clause-sent
returns-clause-sent c =
    let was = c.args.node.now.live in
    let node = c.run.new.self in
    let thawed : node.frozen ≡ None = c.run.ensures.kept ∙ c.requires.thawed in
    let never : LacksFrames (memory_kept node) (node_ranges node.live) → ⊥ = λ lacks. let some = lacking_frozen node (node_ranges node.live) lacks in absurd (cc) in
    step_sends c.run.result.count c.run.result.why _ was node.live _ c.run.ensures.why never c.run.ensures.steps
