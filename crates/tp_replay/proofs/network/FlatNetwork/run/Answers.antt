use Rattle.std.proofs.Common.{arith, sym, ◌∙◌}
use Rattle.std.proofs.lemmas.Option.{slice_get_past}
use Rattle.tp_replay.specs.Inside.{replay_state}
use Rattle.tp_replay.proofs.Applied.{refused, applied, node_count}
use Rattle.tp_replay.proofs.Impossible.{run_nowhere, run_uncounted}
use Rattle.tp_replay.proofs.Ran.{ran_all, ran_not, ran_cut}
use Rattle.tp_replay.proofs.network.FlatNetwork.run.Goals as goal

pub returns-then-node-len-clause-applies : goal.returns-then-node-len-clause-applies
returns-then-node-len-clause-applies c =
    let n = c.self.inside in
    rw (← c.self.view_is) (refused _ _ _ (run_nowhere (replay_state n) c.args.node c.args.count
    (slice_get_past (replay_state n).nodes c.args.node (omega (arith, node_count n c.self.invariant, n.nodes.ok.0)))))

pub returns-then-not-is_count-clause-applies : goal.returns-then-not-is_count-clause-applies
returns-then-not-is_count-clause-applies c =
    rw (← c.self.view_is) (refused _ _ _ (run_uncounted (replay_state c.self.inside) c.args.node c.args.count (sym c.is_count.ensures.value ∙ c.if-not-is_count.true)))

pub returns-then-run_upto-count-clause-applies : goal.returns-then-run_upto-count-clause-applies
returns-then-run_upto-count-clause-applies c =
    applied _ _ (ran_all _ c.args.node c.args.count c.run_upto.result _ c.run_upto.ensures.ran c.if-run_upto-count.true (c.is_count.ensures.some c.if-not-is_count.false))

pub returns-else-run_upto-count-clause-applies : goal.returns-else-run_upto-count-clause-applies
returns-else-run_upto-count-clause-applies c =
    refused _ _ _ (ran_not _ c.args.node c.args.count c.run_upto.result _ c.run_upto.ensures.ran (omega (arith, c.run_upto.ensures.ran.few, c.if-run_upto-count.false)))

pub returns-else-run_upto-count-clause-err : goal.returns-else-run_upto-count-clause-err
returns-else-run_upto-count-clause-err c =
    ran_cut _ c.args.node c.args.count c.run_upto.result _ c.run_upto.ensures.ran (omega (arith, c.run_upto.ensures.ran.few, c.if-run_upto-count.false))
