use Rattle.std.proofs.Common.{rules, ◌≡◌, Ok, None, subst}
use Rattle.tp_stream.specs.Failures.{answer_failed}
use Rattle.tp_stream.specs.Served.{ServedOn}
use Rattle.tp_stream.proofs.Served.{served_until}
use Rattle.tp_stream.proofs.serving.lap.Goals as goal

pub returns-then-are_here-clause-served : goal.returns-then-are_here-clause-served
returns-then-are_here-clause-served g c =
    let start = g.J.Naming.formatted in
    let before = g.J.Naming.before in
    let old = c.args.flusher.now in
    let mid = c.cycle-done.new.flusher in
    let was = c.args.streams.now.outputs.items in
    let now = c.cycle-done.new.streams.outputs.items in
    let going : c.cycle-done.result ≡ Ok None = search rules in
    served_until start before (answer_failed c.go_beside.result) old mid c.go_beside.new.flusher was now
    (subst (λ last. ServedOn start before (answer_failed last) old mid was now) going c.cycle-done.ensures.served) c.go_beside.ensures.premise c.go_beside.ensures.walks c.go_beside.ensures.process c.go_beside.ensures.failures
