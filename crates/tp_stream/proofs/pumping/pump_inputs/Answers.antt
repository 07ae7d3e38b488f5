use Rattle.std.proofs.Common.{rules, ◌≡◌, Err}
use Rattle.tp_stream.proofs.Failures.{if_err}
use Rattle.tp_stream.proofs.HandedFrom.{fed_then}
use Rattle.tp_stream.proofs.pumping.pump_inputs.Goals as goal

pub returns-in_err-step_inputs-clause-ends : goal.returns-in_err-step_inputs-clause-ends
returns-in_err-step_inputs-clause-ends g c outputs =
    let fault = c.in_err-step_inputs.field-0.0 in
    let is : c.from_residual.result ≡ Err fault = search rules in
    if_err c.from_residual.result fault _ is (c.in_err-step_inputs.ensures.ends outputs)

pub returns-clause-fed : goal.returns-clause-fed
returns-clause-fed g c = fed_then g.J.Naming.accepted _ _ _ _ _ _ c.step_inputs.ensures.fed c.step_inputs-2.ensures.fed

pub returns-clause-noted : goal.returns-clause-noted
returns-clause-noted g c outputs N = c.step_inputs-2.ensures.noted outputs (c.step_inputs.ensures.noted outputs N)
