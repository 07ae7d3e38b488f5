use Rattle.std.proofs.Common.{◌≤◌, ◌<◌, inl, inr, length, map, ap, subst, ◌∙◌, arith}
use Rattle.tp_stream.proofs.Lower.{length-map, HasAtLeast, given_input}
use Rattle.tp_stream.specs.declared.fault.StreamFault.TheVariants.{Port as Absent}
use Rattle.tp_stream.specs.Standing.{accepted_at}
use Rattle.tp_stream.specs.Told.{input_begins}
use Rattle.tp_stream.proofs.Notices.{noticed_none, said_input, told_all, told_more}
use Rattle.tp_stream.proofs.Standings.{all_have_accepted, have_accepted_more, input_at}
use Rattle.tp_stream.proofs.beginning.begin_inputs.Goals as goal

pub returns-then-from-ports-clause-refused : goal.returns-then-from-ports-clause-refused
returns-then-from-ports-clause-refused g c =
    let x = c.input-item.result in
    let within : c.loop-input.input-index < length c.args.inputs.now = omega arith in
    let past : length c.args.book.now.state.ports ≤ x.port = omega arith in
    record {
      at = c.loop-input.input-index;
      given = given_input x.port (g.I.Source.input x.source);
      there = input_at (λ i. given_input i.port (g.I.Source.input i.source)) c.args.inputs.now c.loop-input.input-index x within c.input-item.is;
      before = c.loop-input.invariant.begun;
      why = inr (ap Absent c.port-port.ensures, past);
    }

pub returns-in-Some-clause-refused : goal.returns-in-Some-clause-refused
returns-in-Some-clause-refused g c =
    let x = c.input-item.result in
    let within : c.loop-input.input-index < length c.args.inputs.now = omega arith in
    let short = c.in-Some.ensures.some in
    record {
      at = c.loop-input.input-index;
      given = given_input x.port (g.I.Source.input x.source);
      there = input_at (λ i. given_input i.port (g.I.Source.input i.source)) c.args.inputs.now c.loop-input.input-index x within c.input-item.is;
      before = c.loop-input.invariant.begun;
      why = inl (c.port-port.ensures, c.accepted-accepted.ensures ∙ ap (accepted_at c.args.book.now) c.port-port.ensures, short.0, short.1);
    }

pub loop-input-preserved : goal.loop-input-preserved
loop-input-preserved g c =
    let x = c.input-item.result in
    let within : c.loop-input.input-index < length c.args.inputs.now = omega arith in
    let at = input_at (λ i. given_input i.port (g.I.Source.input i.source)) c.args.inputs.now c.loop-input.input-index x within c.input-item.is in
    record {
      begun =
          have_accepted_more (accepted_at c.args.book.now) _ c.loop-input.input-index (given_input x.port (g.I.Source.input x.source)) c.loop-input.invariant.begun at
          (subst (λ n. HasAtLeast n (g.I.Source.input x.source)) (c.accepted-accepted.ensures ∙ ap (accepted_at c.args.book.now) c.port-port.ensures) c.in_default.ensures.none);
      told =
          told_more (input_begins (accepted_at c.args.book.now)) _ c.loop-input.input-index (given_input x.port (g.I.Source.input x.source)) _ _ _ at c.loop-input.invariant.told
          (said_input (accepted_at c.args.book.now) (given_input x.port (g.I.Source.input x.source)) c.port-port.result c.accepted-accepted.result _ _ c.port-port.ensures c.accepted-accepted.ensures c.input.ensures);
    }

pub returns-clause-begun : goal.returns-clause-begun
returns-clause-begun g c =
    let many : length (map (λ i. given_input i.port (g.I.Source.input i.source)) c.args.inputs.now) ≤ c.loop-input.input-index =
    let same = length-map c.args.inputs.now (λ i. given_input i.port (g.I.Source.input i.source)) in omega arith in
    all_have_accepted (accepted_at c.args.book.now) _ c.loop-input.input-index many c.loop-input.invariant.begun

pub returns-clause-told : goal.returns-clause-told
returns-clause-told g c =
    let many : length (map (λ i. given_input i.port (g.I.Source.input i.source)) c.args.inputs.now) ≤ c.loop-input.input-index =
    let same = length-map c.args.inputs.now (λ i. given_input i.port (g.I.Source.input i.source)) in omega arith in
    told_all (input_begins (accepted_at c.args.book.now)) _ c.loop-input.input-index _ _ many c.loop-input.invariant.told

pub loop-input-init : goal.loop-input-init
loop-input-init g c = record { begun = λ k below h is. absurd (omega (arith, below)); told = noticed_none (g.L.Listener.told c.args.listener.now) }
