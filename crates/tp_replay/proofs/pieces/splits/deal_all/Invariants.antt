-- The workers so far have their parts, and the nodes after these are left.
use Rattle.std.proofs.Common.{◌≡◌, map, drop}
use Rattle.tp_replay.specs.Dealt.{first_of}
use Rattle.tp_replay.specs.Dealing.{run_part}
use Rattle.tp_replay.specs.Runs.{runs}
use Rattle.tp_replay.proofs.pieces.splits.deal_all.Given as goal

abbrev pub invariant-loop-worker : goal.invariant-loop-worker
invariant-loop-worker l =
    (l.parts.items ≡ map (run_part l.host.network l.fn.nodes.items) (runs l.count l.workers l.worker))
    × (l.rest.items ≡ drop (first_of l.count l.workers l.worker) l.fn.nodes.items)
