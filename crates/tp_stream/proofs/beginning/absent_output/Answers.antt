use Rattle.std.proofs.Common.{◌≤◌, ◌<◌, Some, sym, ap, ◌∙◌, arith}
use Rattle.tp_stream_files.specs.Outputs.{OutputValue}
use Rattle.tp_stream.proofs.Tests.{first_behind, first_here}
use Rattle.tp_stream.proofs.beginning.absent_output.Goals as goal

pub returns-then-from-ports : goal.returns-then-from-ports
returns-then-from-ports g c =
    let x = c.output-item.result in
    let past : c.args.ports ≤ x.port = omega arith in
    ap Some c.port-then-from-ports.ensures
    ∙ sym (first_here c.args.ports (λ (o : OutputValue). o.port) c.args.outputs.now c.loop-output.output-index x c.loop-output-test.true c.output-item.is past) ∙ c.loop-output.invariant

pub loop-output-preserved : goal.loop-output-preserved
loop-output-preserved g c =
    let x = c.output-item.result in
    let few : x.port < c.args.ports = omega arith in
    first_behind c.args.ports (λ (o : OutputValue). o.port) c.args.outputs.now c.loop-output.output-index x c.loop-output-test.true c.output-item.is few ∙ c.loop-output.invariant
