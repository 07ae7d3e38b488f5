use Rattle.std.proofs.Common.{sym, ◌∙◌}
use Rattle.std.specs.Prelude.{◌==◌}
use Rattle.tp_stream.proofs.Lower.{eq-eqb, ne_eqb, OutputValue}
use Rattle.tp_stream.proofs.Tests.{none_more, none_passed, one_passed}
use Rattle.tp_stream.proofs.beginning.has_sink.Goals as goal

pub returns-then-port : goal.returns-then-port
returns-then-port g c =
    sym (one_passed (λ (o : OutputValue). o.port == c.args.port) c.args.outputs.now c.loop-output.output-index c.output-item.result c.loop-output-test.true c.output-item.is
    (eq-eqb c.output-item.result.port c.args.port (sym c.port.ensures ∙ c.if-port.true)))

pub loop-output-preserved : goal.loop-output-preserved
loop-output-preserved g c =
    none_more (λ (o : OutputValue). o.port == c.args.port) c.args.outputs.now c.loop-output.output-index c.output-item.result c.loop-output-test.true c.output-item.is c.loop-output.invariant
    (ne_eqb c.output-item.result.port c.args.port (λ e. c.if-port.false (c.port.ensures ∙ e)))

pub returns : goal.returns
returns g c = sym (none_passed (λ (o : OutputValue). o.port == c.args.port) c.args.outputs.now c.loop-output.output-index c.loop-output-test.false c.loop-output.invariant)
