use Rattle.std.proofs.Common.{◌≤◌, ◌<◌, Some, sym, ap, ◌∙◌, arith}
use Rattle.tp_stream.proofs.Tests.{first_behind, first_here}
use Rattle.tp_stream.proofs.beginning.absent_input.Goals as goal

pub returns-then-from-ports : goal.returns-then-from-ports
returns-then-from-ports g c =
    let x = c.input-item.result in
    let past : c.args.ports ≤ x.port = omega arith in
    ap Some c.port-then-from-ports.ensures
    ∙ sym (first_here c.args.ports (λ i. i.port) c.args.inputs.now c.loop-input.input-index x c.loop-input-test.true c.input-item.is past) ∙ c.loop-input.invariant

pub loop-input-preserved : goal.loop-input-preserved
loop-input-preserved g c =
    let x = c.input-item.result in
    let few : x.port < c.args.ports = omega arith in
    first_behind c.args.ports (λ i. i.port) c.args.inputs.now c.loop-input.input-index x c.loop-input-test.true c.input-item.is few ∙ c.loop-input.invariant
