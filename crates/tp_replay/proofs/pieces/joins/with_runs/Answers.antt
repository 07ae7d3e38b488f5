use Rattle.std.proofs.Common.{◌≡◌, ◌+◌, sym, ap, subst, ◌∙◌, length}
use Rattle.tp_replay.specs.Joining.{HoldsFrom}
use Rattle.tp_replay.proofs.Rejoined.{are_left, begins, goes_before, left_long, not_host, start_at, start_first, was_last, was_there}
use Rattle.tp_replay.proofs.pieces.joins.with_runs.Goals as goal

pub with_run-requires : goal.with_run-requires
with_run-requires c =
    let items = c.args.runs.items in
    let left = c.loop-part.runs.items in
    let rest = c.pop.new.self.items in
    let inv = c.loop-part.invariant in
    let took = c.in-Some.ensures.items in
    let t = c.requires.0 in
    let before = c.requires.1 in (
      t,
      goes_before t items c.args.apart before (length rest) c.in-Nodes.run' c.known.ensures.0 (was_there items left rest c.in-Some.part inv.0 took) (was_last items left rest c.in-Some.part inv.0 took ∙ c.in-Nodes.is) c.known.ensures.1 c.loop-part.apart
          (subst (λ k. HoldsFrom t (start_at (length t.nodes) before.rs k) c.loop-part.apart) (left_long items left rest c.in-Some.part inv.0 took) (inv.1 t before)),
    )

pub loop-part-preserved : goal.loop-part-preserved
loop-part-preserved c =
    let items = c.args.runs.items in
    let left = c.loop-part.runs.items in
    let rest = c.pop.new.self.items in
    let inv = c.loop-part.invariant in
    let took = c.in-Some.ensures.items in
    let below = was_there items left rest c.in-Some.part inv.0 took in
    let at = was_last items left rest c.in-Some.part inv.0 took ∙ c.in-Nodes.is in (
      are_left items left rest c.in-Some.part inv.0 took,
      λ t before. begins t items c.args.apart before (length rest) c.in-Nodes.run' c.known.ensures.0 below at c.known.ensures.1 c.in_ok-apart-in-Nodes.apart
          (c.in_ok-apart-in-Nodes.ensures t (goes_before t items c.args.apart before (length rest) c.in-Nodes.run' c.known.ensures.0 below at c.known.ensures.1 c.loop-part.apart
          (subst (λ k. HoldsFrom t (start_at (length t.nodes) before.rs k) c.loop-part.apart) (left_long items left rest c.in-Some.part inv.0 took) (inv.1 t before)))),
    )

pub unreachable-requires : goal.unreachable-requires
unreachable-requires c =
    let items = c.args.runs.items in
    let left = c.loop-part.runs.items in
    let rest = c.pop.new.self.items in
    let inv = c.loop-part.invariant in
    let took = c.in-Some.ensures.items in
    not_host c.requires.0 items c.args.apart c.requires.1 (length rest) c.in-Host.host (was_there items left rest c.in-Some.part inv.0 took) (was_last items left rest c.in-Some.part inv.0 took ∙ c.in-Host.is)
    c.known-in-Host.ensures

pub returns : goal.returns
returns c = λ t before.
    let none : length c.loop-part.runs.items ≡ 0 = sym c.loop-part.runs.ok.0 ∙ c.in_default.ensures.cases.0 in
    subst (λ first. HoldsFrom t first c.loop-part.apart) (ap (start_at (length t.nodes) before.rs) none ∙ start_first 0 (length t.nodes) before.rs before.chain) (c.loop-part.invariant.1 t before)
