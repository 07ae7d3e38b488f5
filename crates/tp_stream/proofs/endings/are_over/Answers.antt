use Rattle.std.proofs.Common.{sym, ◌∙◌}
use Rattle.tp_stream_files.specs.Inputs.{is_over}
use Rattle.tp_stream.proofs.Tests.{all_but, all_more, all_passed}
use Rattle.tp_stream.proofs.endings.are_over.Goals as goal

pub returns-then-not-is_over : goal.returns-then-not-is_over
returns-then-not-is_over g c =
    sym (all_but (λ i. is_over i.ended i.is_blocked) c.args.inputs.now c.loop-input.input-index c.input-item.result c.loop-input-test.true c.input-item.is (sym c.is_over.ensures ∙ c.if-not-is_over.true))

pub loop-input-preserved : goal.loop-input-preserved
loop-input-preserved g c =
    all_more (λ i. is_over i.ended i.is_blocked) c.args.inputs.now c.loop-input.input-index c.input-item.result c.loop-input-test.true c.input-item.is c.loop-input.invariant
    (sym c.is_over.ensures ∙ c.if-not-is_over.false)

pub returns : goal.returns
returns g c = sym (all_passed (λ i. is_over i.ended i.is_blocked) c.args.inputs.now c.loop-input.input-index c.loop-input-test.false c.loop-input.invariant)
