use Rattle.std.proofs.Common.{rules, map, ◌≡◌, ◌<◌, length, Err, arith}
use Rattle.tp_stream_files.specs.Inputs.{given_input}
use Rattle.tp_stream.proofs.FailedEnds.{names_input}
use Rattle.tp_stream.proofs.Failures.{if_err}
use Rattle.tp_stream.proofs.HandedFrom.{fed_none, fed_set, given_same}
use Rattle.tp_stream.proofs.pumping.step_inputs.Goals as goal

pub returns-in_err-step_input-clause-ends : goal.returns-in_err-step_input-clause-ends
returns-in_err-step_input-clause-ends g c outputs =
    let within : c.loop-input.input-index < length c.loop-input.inputs = omega arith in
    let fault = c.in_err-step_input.field-0.0 in
    let is : c.from_residual.result ≡ Err fault = search rules in
    if_err c.from_residual.result fault _ is
    (names_input _ c.loop-input.inputs c.loop-input.input-index c.step_input.new.input outputs fault within c.in_err-step_input.ensures.names)

-- ## What was handed in

pub loop-input-init : goal.loop-input-init
loop-input-init g c = record { fed = fed_none g.J.Naming.accepted (map (λ i. given_input i.port (g.I.Source.input i.source)) c.args.inputs.now) c.args.host.now; noted = λ outputs N. N }

pub loop-input-preserved : goal.loop-input-preserved
loop-input-preserved g c =
    let within : c.loop-input.input-index < length c.loop-input.inputs = omega arith in
    let E = c.step_input.ensures in
    record {
      fed =
          fed_set (λ i. given_input i.port (g.I.Source.input i.source)) g.J.Naming.accepted _ c.loop-input.inputs c.loop-input.input-index c.input-item.result c.step_input.new.input c.args.host.now c.loop-input.host c.step_input.new.host within
          (given_same _ _ _ _ E.same.0 E.same.1) c.loop-input.invariant.fed E.fed;
      noted = λ outputs N. E.noted outputs (c.loop-input.invariant.noted outputs N);
    }

pub returns-in_err-step_input-clause-fed : goal.returns-in_err-step_input-clause-fed
returns-in_err-step_input-clause-fed g c =
    let within : c.loop-input.input-index < length c.loop-input.inputs = omega arith in
    let E = c.step_input.ensures in
    fed_set (λ i. given_input i.port (g.I.Source.input i.source)) g.J.Naming.accepted _ c.loop-input.inputs c.loop-input.input-index c.input-item.result c.step_input.new.input c.args.host.now c.loop-input.host c.step_input.new.host within
    (given_same _ _ _ _ E.same.0 E.same.1) c.loop-input.invariant.fed E.fed

pub returns-in_err-step_input-clause-noted : goal.returns-in_err-step_input-clause-noted
returns-in_err-step_input-clause-noted g c outputs N = c.step_input.ensures.noted outputs (c.loop-input.invariant.noted outputs N)
