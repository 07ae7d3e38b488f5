use Rattle.tp_stream.proofs.Lower.{port_in, OutputValue}
use Rattle.tp_stream.specs.Put.{is_put}
use Rattle.tp_stream.proofs.Tests.{all_more, all_passed}
use Rattle.tp_stream.proofs.left.are_put.Goals as goal

pub loop-output-preserved : goal.loop-output-preserved
loop-output-preserved g c =
    all_more (λ (o : OutputValue). is_put c.args.why (port_in c.args.book.now o.port) o.next) c.args.outputs.now c.loop-output.output-index c.output-item.result c.loop-output-test.true c.output-item.is
    c.loop-output.invariant (c.is_put.ensures c.if-not-is_put.false)

pub returns : goal.returns
returns g c is =
    all_passed (λ (o : OutputValue). is_put c.args.why (port_in c.args.book.now o.port) o.next) c.args.outputs.now c.loop-output.output-index c.loop-output-test.false c.loop-output.invariant
