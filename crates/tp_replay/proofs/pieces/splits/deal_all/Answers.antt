use Rattle.std.proofs.Common.{◌≡◌, ◌+◌, ◌++◌, ◌≤◌, Some, sym, ap, subst, ◌∙◌, arith, drop, length, length-drop, vec_len, map}
use Rattle.tp_replay.proofs.Lower.{length-replicate, slice_get}
use Rattle.tp_replay.specs.Dealt.{first_of}
use Rattle.tp_replay.proofs.Dealt.{first_most}
use Rattle.tp_replay.specs.Blank.{blank_node}
use Rattle.tp_replay.specs.Dealing.{new_part, run_part}
use Rattle.tp_replay.specs.Runs.{runs}
use Rattle.tp_replay.proofs.Chains.{first_none}
use Rattle.tp_replay.proofs.Dealing.{dealt_more, rest_more}
use Rattle.tp_replay.proofs.Stretch.{left_there}
use Rattle.tp_replay.proofs.pieces.splits.deal_all.Goals as goal

pub loop-worker-init : goal.loop-worker-init
unfolding runs
loop-worker-init c = (c.new-parts.ensures.items, sym (ap (λ n. drop n c.args.nodes.items) (first_none c.host.inside.nodes c.args.workers)))

pub deal-requires-clause-few : goal.deal-requires-clause-few
deal-requires-clause-few c =
    let n = c.host.inside.nodes in
    let many : vec_len c.args.nodes ≡ n = c.requires.all ∙ ap (λ h. length h.network.nodes) (sym c.host.view_is) ∙ length-replicate n blank_node in
    let left = ap length c.loop-worker.invariant.1 ∙ length-drop (first_of n c.args.workers c.loop-worker.worker) c.args.nodes.items in
    let most = first_most n c.args.workers c.loop-worker.worker (let below = c.loop-worker-test.true in omega (arith, below)) in
    let first = c.neighbours_of-run.ensures.first in
    let all = c.requires.all in
    let long = c.args.nodes.ok.0 in
    let rest = c.loop-worker.rest.ok.0 in
    omega (arith, many, left, most, first, all, long, rest)

pub deal-requires-clause-there : goal.deal-requires-clause-there
deal-requires-clause-there c =
    let n = c.host.inside.nodes in
    let many : vec_len c.args.nodes ≡ n = c.requires.all ∙ ap (λ h. length h.network.nodes) (sym c.host.view_is) ∙ length-replicate n blank_node in
    let left = ap length c.loop-worker.invariant.1 ∙ length-drop (first_of n c.args.workers c.loop-worker.worker) c.args.nodes.items in
    let most = first_most n c.args.workers (c.loop-worker.worker + 1) (let below = c.loop-worker-test.true in omega (arith, below)) in
    let first = c.neighbours_of-run.ensures.first in
    let end = c.neighbours_of-run.ensures.end in
    let long = c.args.nodes.ok.0 in
    let rest = c.loop-worker.rest.ok.0 in
    omega (arith, many, left, most, first, end, long, rest)

pub deal-requires-clause-live : goal.deal-requires-clause-live
deal-requires-clause-live c = λ i node at.
    let first = first_of c.host.inside.nodes c.args.workers c.loop-worker.worker in
    c.requires.live (first + i) node (left_there first c.args.nodes.items i node (subst (λ xs. slice_get xs i ≡ Some node) c.loop-worker.invariant.1 at))

pub loop-worker-preserved : goal.loop-worker-preserved
loop-worker-preserved c =
    let n = c.host.inside.nodes in
    let u = c.args.host.now.network in
    let nodes = c.args.nodes.items in
    let run = c.neighbours_of-run.result in
    let inv = c.loop-worker.invariant in
    let first = c.neighbours_of-run.ensures.first in
    let end = c.neighbours_of-run.ensures.end in
    let rest = inv.1 ∙ ap (λ k. drop k nodes) (sym first) in (
      c.in_ok-deal.ensures.parts ∙ ap (λ ns. c.loop-worker.parts.items ++ new_part u run.first run.count ns) rest
          ∙ dealt_more u nodes n c.args.workers c.loop-worker.worker run.first run.count c.loop-worker.parts.items first end inv.0,
      c.in_ok-deal.ensures.rest ∙ rest_more nodes c.loop-worker.rest.items run.first run.count (first_of n c.args.workers (c.loop-worker.worker + 1)) rest end,
    )

pub returns : goal.returns
returns c =
    let n = c.host.inside.nodes in
    let many : vec_len c.args.nodes ≡ n = c.requires.all ∙ ap (λ h. length h.network.nodes) (sym c.host.view_is) ∙ length-replicate n blank_node in
    let all : c.loop-worker.worker ≡ c.args.workers = (let past = c.loop-worker-test.false in let most = c.loop-worker.auto.worker-end in omega (arith, past, most)) in
    c.loop-worker.invariant.0 ∙ ap (λ w. map (run_part c.args.host.now.network c.args.nodes.items) (runs n c.args.workers w)) all
    ∙ ap (λ k. map (run_part c.args.host.now.network c.args.nodes.items) (runs k c.args.workers c.args.workers)) (sym many)
