use Rattle.std.proofs.Common.{rules, ◌≡◌, length, drop, Err, map, arith}
use Rattle.tp_stream_files.specs.Inputs.{given_input}
use Rattle.tp_stream.proofs.FailedEnds.{with_inputs, with_outputs}
use Rattle.tp_stream.proofs.Failures.{if_err}
use Rattle.tp_stream.proofs.HandedFrom.{fed_back, fed_still, fed_then}
use Rattle.tp_stream.proofs.Noting.{noted_back}
use Rattle.tp_stream.proofs.pumping.pump.Goals as goal

pub returns-in_err-put-clause-ends : goal.returns-in_err-put-clause-ends
returns-in_err-put-clause-ends g c =
    let fault = c.in_err-put.field-0.0 in
    let is : c.from_residual.result ≡ Err fault = search rules in
    let inputs = map (λ i. i.port) c.args.streams.now.inputs.items in
    let outputs = c.step_outputs.new.outputs in
    let long : length outputs ≡ c.args.streams.now.outputs.len = omega (arith, c.step_outputs.auto.outputs, c.deref_mut.ensures.len) in
    with_outputs c.from_residual.result c.args.streams.now.outputs.len outputs (drop (length outputs) c.args.streams.now.outputs.items) inputs long
    (if_err c.from_residual.result fault _ is (c.in_err-put.ensures.ends inputs))

pub returns-clause-ends : goal.returns-clause-ends
returns-clause-ends g c =
    let outputs = c.step_outputs.new.outputs in
    let inputs = c.pump_inputs.new.inputs in
    let long : length outputs ≡ c.args.streams.now.outputs.len = omega (arith, c.step_outputs.auto.outputs, c.deref_mut.ensures.len) in
    let many : length inputs ≡ c.args.streams.now.inputs.len = omega (arith, c.pump_inputs.auto.inputs, c.deref_mut-2.ensures.len) in
    with_inputs (λ i. i.port) c.pump_inputs.result c.args.streams.now.inputs.len _ inputs (drop (length inputs) c.args.streams.now.inputs.items) many
    (with_outputs c.pump_inputs.result c.args.streams.now.outputs.len outputs (drop (length outputs) c.args.streams.now.outputs.items) (map (λ i. i.port) inputs) long
    (c.pump_inputs.ensures.ends outputs))

-- ## What was handed in

pub returns-in_err-put-clause-fed : goal.returns-in_err-put-clause-fed
returns-in_err-put-clause-fed g c = fed_still g.J.Naming.accepted (map (λ i. given_input i.port (g.I.Source.input i.source)) c.args.streams.now.inputs.items) _ _ c.step_outputs.ensures.unfed

pub returns-then-eq-clause-fed : goal.returns-then-eq-clause-fed
returns-then-eq-clause-fed g c = fed_still g.J.Naming.accepted (map (λ i. given_input i.port (g.I.Source.input i.source)) c.args.streams.now.inputs.items) _ _ c.step_outputs.ensures.unfed

pub returns-clause-fed : goal.returns-clause-fed
returns-clause-fed g c =
    let was = c.args.streams.now.inputs in
    let inputs = c.pump_inputs.new.inputs in
    let many : length inputs ≡ was.len = omega (arith, c.pump_inputs.auto.inputs, c.deref_mut-2.ensures.len) in
    fed_then g.J.Naming.accepted _ _ _ _ _ _ (fed_still g.J.Naming.accepted (map (λ i. given_input i.port (g.I.Source.input i.source)) was.items) _ _ c.step_outputs.ensures.unfed)
    (fed_back (λ i. given_input i.port (g.I.Source.input i.source)) g.J.Naming.accepted was.items c.deref_mut-2.result.now inputs was.len _ _ many c.deref_mut-2.ensures.value c.pump_inputs.ensures.fed)

-- ## What the seat and the host's key show

pub returns-in_err-put-clause-noted : goal.returns-in_err-put-clause-noted
returns-in_err-put-clause-noted g c =
    let outputs = c.step_outputs.new.outputs in
    let was = c.args.streams.now.outputs in
    let long : length outputs ≡ was.len = omega (arith, c.step_outputs.auto.outputs, c.deref_mut.ensures.len) in
    noted_back was.items c.deref_mut.result.now outputs was.len _ _ _ _ long c.deref_mut.ensures.value c.step_outputs.ensures.noted

pub returns-then-eq-clause-noted : goal.returns-then-eq-clause-noted
returns-then-eq-clause-noted g c =
    let outputs = c.step_outputs.new.outputs in
    let was = c.args.streams.now.outputs in
    let long : length outputs ≡ was.len = omega (arith, c.step_outputs.auto.outputs, c.deref_mut.ensures.len) in
    noted_back was.items c.deref_mut.result.now outputs was.len _ _ _ _ long c.deref_mut.ensures.value c.step_outputs.ensures.noted

pub returns-clause-noted : goal.returns-clause-noted
returns-clause-noted g c N =
    let outputs = c.step_outputs.new.outputs in
    let was = c.args.streams.now.outputs in
    let long : length outputs ≡ was.len = omega (arith, c.step_outputs.auto.outputs, c.deref_mut.ensures.len) in
    c.pump_inputs.ensures.noted _ (noted_back was.items c.deref_mut.result.now outputs was.len _ _ _ _ long c.deref_mut.ensures.value c.step_outputs.ensures.noted N)
