use Rattle.std.proofs.Common.{rules, map, length, drop, arith, ◌≡◌, Err, ap, ◌∙◌}
use Rattle.tp_stream.proofs.Lower.{list_all, is_over, given_input}
use Rattle.tp_stream.specs.Streamed.{CameBetween}
use Rattle.tp_stream.proofs.FailedEnds.{names_none, turns_between, turns_name_none, with_inputs}
use Rattle.tp_stream.proofs.Failures.{if_err}
use Rattle.tp_stream.proofs.HandedFrom.{fed_back, fed_none, fed_then}
use Rattle.tp_stream.proofs.Quiets.{ended_why, leaves_no_input}
use Rattle.tp_stream.proofs.serving.go_on.Goals as goal

pub returns-in-Some-clause-why : goal.returns-in-Some-clause-why
returns-in-Some-clause-why g c =
    ended_why g.J.Naming.start c.args.ground.pace.task c.args.going.now.turns c.nodes-2.result c.is_asked-asked.result c.in_ok-pumped.pumped c.are_over-over.result c.in-Some.why c.nodes-2.ensures c.requires
    c.is_asked-asked.ensures.asked c.in-Some.ensures.why

pub returns-in-Some-clause-inputs : goal.returns-in-Some-clause-inputs
returns-in-Some-clause-inputs g c =
    leaves_no_input c.args.ground.pace.task c.args.going.now.turns c.nodes-2.result c.is_asked-asked.result c.in_ok-pumped.pumped c.are_over-over.result _ c.in-Some.why
    (c.are_over-over.ensures ∙ ap (λ inputs. list_all (λ i. is_over i.ended i.is_blocked) inputs) c.deref.ensures.value) c.in-Some.ensures.why

-- ## Which fault

pub returns-in_err-settle-clause-begun : goal.returns-in_err-settle-clause-begun
returns-in_err-settle-clause-begun g c =
    let fault = c.in_err-settle.field-0.0 in
    let is : c.from_residual.result ≡ Err fault = search rules in
    if_err c.from_residual.result fault CameBetween is (turns_between fault c.in_err-settle.ensures.begun)

pub returns-in_err-settle-clause-ends : goal.returns-in_err-settle-clause-ends
returns-in_err-settle-clause-ends g c =
    let fault = c.in_err-settle.field-0.0 in
    let is : c.from_residual.result ≡ Err fault = search rules in
    if_err c.from_residual.result fault _ is (names_none _ _ fault (turns_name_none fault c.in_err-settle.ensures.begun))

pub returns-in_err-rest_or_turn-clause-ends : goal.returns-in_err-rest_or_turn-clause-ends
returns-in_err-rest_or_turn-clause-ends g c =
    let fault = c.in_err-rest_or_turn.field-0.0 in
    let is : c.from_residual-in_err-rest_or_turn.result ≡ Err fault = search rules in
    let outputs = c.pump.new.streams.outputs.items in
    let inputs = c.rest_or_turn.new.inputs in
    let many : length inputs ≡ c.pump.new.streams.inputs.len = omega (arith, c.rest_or_turn.auto.inputs, c.deref_mut.ensures.len) in
    with_inputs (λ i. i.port) c.from_residual-in_err-rest_or_turn.result c.pump.new.streams.inputs.len outputs inputs (drop (length inputs) c.pump.new.streams.inputs.items) many
    (if_err c.from_residual-in_err-rest_or_turn.result fault _ is (c.in_err-rest_or_turn.ensures.ends outputs))

-- ## What was handed in

pub returns-in_err-settle-clause-fed : goal.returns-in_err-settle-clause-fed
returns-in_err-settle-clause-fed g c = fed_none g.J.Naming.accepted (map (λ i. given_input i.port (g.I.Source.input i.source)) c.args.streams.now.inputs.items) c.args.going.now.host

pub returns-then-may_settle-clause-fed : goal.returns-then-may_settle-clause-fed
returns-then-may_settle-clause-fed g c = fed_none g.J.Naming.accepted (map (λ i. given_input i.port (g.I.Source.input i.source)) c.args.streams.now.inputs.items) c.args.going.now.host

pub returns-in_err-rest_or_turn-clause-fed : goal.returns-in_err-rest_or_turn-clause-fed
returns-in_err-rest_or_turn-clause-fed g c =
    let was = c.pump.new.streams.inputs in
    let inputs = c.rest_or_turn.new.inputs in
    let many : length inputs ≡ was.len = omega (arith, c.rest_or_turn.auto.inputs, c.deref_mut.ensures.len) in
    fed_then g.J.Naming.accepted _ _ _ _ _ _ c.pump.ensures.fed
    (fed_back (λ i. given_input i.port (g.I.Source.input i.source)) g.J.Naming.accepted was.items c.deref_mut.result.now inputs was.len _ _ many c.deref_mut.ensures.value c.rest_or_turn.ensures.fed)

pub returns-clause-fed : goal.returns-clause-fed
returns-clause-fed g c =
    let was = c.pump.new.streams.inputs in
    let inputs = c.rest_or_turn.new.inputs in
    let many : length inputs ≡ was.len = omega (arith, c.rest_or_turn.auto.inputs, c.deref_mut.ensures.len) in
    fed_then g.J.Naming.accepted _ _ _ _ _ _ c.pump.ensures.fed
    (fed_back (λ i. given_input i.port (g.I.Source.input i.source)) g.J.Naming.accepted was.items c.deref_mut.result.now inputs was.len _ _ many c.deref_mut.ensures.value c.rest_or_turn.ensures.fed)

-- ## What seats and the host's key show

pub returns-in_err-settle-clause-noted : goal.returns-in_err-settle-clause-noted
returns-in_err-settle-clause-noted g c N = record { made = c.settle.ensures.turns N.made; noted = N.noted }

pub returns-then-may_settle-clause-noted : goal.returns-then-may_settle-clause-noted
returns-then-may_settle-clause-noted g c N = record { made = c.settle.ensures.turns N.made; noted = N.noted }

pub returns-in_err-pumped-clause-noted : goal.returns-in_err-pumped-clause-noted
returns-in_err-pumped-clause-noted g c N = record { made = N.made; noted = c.pump.ensures.noted N.noted }

pub returns-in-Some-clause-noted : goal.returns-in-Some-clause-noted
returns-in-Some-clause-noted g c N = record { made = N.made; noted = c.pump.ensures.noted N.noted }

pub returns-in_err-rest_or_turn-clause-noted : goal.returns-in_err-rest_or_turn-clause-noted
returns-in_err-rest_or_turn-clause-noted g c N = c.rest_or_turn.ensures.noted _ (record { made = N.made; noted = c.pump.ensures.noted N.noted })

pub returns-clause-noted : goal.returns-clause-noted
returns-clause-noted g c N = c.rest_or_turn.ensures.noted _ (record { made = N.made; noted = c.pump.ensures.noted N.noted })
