use Rattle.std.proofs.Common.{◌≤◌, ◌<◌, inl, inr, length, map, slice_index_or, refl, ap, ◌∙◌, arith}
use Rattle.tp_stream.proofs.Lower.{length-map, given_of}
use Rattle.tp_stream.specs.declared.fault.StreamFault.TheVariants.{Port as Absent}
use Rattle.tp_stream.proofs.Standings.{all_may_begin, given_at, given_set, may_begin_more, put_out_few}
use Rattle.tp_stream.specs.Standing.{port_standing}
use Rattle.tp_stream.specs.Steps.{IsSetOut}
use Rattle.tp_stream.specs.Told.{output_begins}
use Rattle.tp_stream.proofs.Notices.{noticed_none, said_output, told_all, told_more}
use Rattle.tp_stream.proofs.Puts.{each_all, each_more}
use Rattle.tp_stream.proofs.beginning.begin_outputs.Goals as goal

pub returns-then-from-ports-clause-refused : goal.returns-then-from-ports-clause-refused
returns-then-from-ports-clause-refused g c =
    let xs = c.loop-output.outputs in
    let x = slice_index_or xs c.loop-output.output-index c.output-item.result in
    let within : c.loop-output.output-index < length xs = omega arith in
    let past : length c.args.book.now.state.ports ≤ x.port = omega arith in
    record {
      at = c.loop-output.output-index;
      given = given_of x;
      there = given_at xs _ c.loop-output.output-index c.output-item.result c.loop-output.invariant.same within;
      before = c.loop-output.invariant.begun;
      why = inr (ap Absent c.port-then-from-ports.ensures, past);
    }

pub begin-requires-clause-few : goal.begin-requires-clause-few
begin-requires-clause-few g c =
    let x = slice_index_or c.loop-output.outputs c.loop-output.output-index c.output-item.result in
    let there : x.port < length c.args.book.now.state.ports = omega arith in
    put_out_few c.args.book.now c.args.mark x.port c.requires there

pub begin-requires-clause-there : goal.begin-requires-clause-there
begin-requires-clause-there g c = omega arith

pub returns-then-from-ports-clause-same : goal.returns-then-from-ports-clause-same
returns-then-from-ports-clause-same g c =
    let x = slice_index_or c.loop-output.outputs c.loop-output.output-index c.output-item.result in
    given_set c.loop-output.outputs c.loop-output.output-index c.output-item.result x refl ∙ c.loop-output.invariant.same

pub returns-clause-same : goal.returns-clause-same
returns-clause-same g c = c.loop-output.invariant.same

pub returns-in-Err-clause-refused : goal.returns-in-Err-clause-refused
returns-in-Err-clause-refused g c =
    let xs = c.loop-output.outputs in
    let within : c.loop-output.output-index < length xs = omega arith in
    record {
      at = c.loop-output.output-index;
      given = given_of (slice_index_or xs c.loop-output.output-index c.output-item.result);
      there = given_at xs _ c.loop-output.output-index c.output-item.result c.loop-output.invariant.same within;
      before = c.loop-output.invariant.begun;
      why = inl c.in-Err.ensures.refused;
    }

pub returns-in-Err-clause-same : goal.returns-in-Err-clause-same
returns-in-Err-clause-same g c =
    given_set c.loop-output.outputs c.loop-output.output-index c.output-item.result c.begin.new.output c.begin.ensures.same ∙ c.loop-output.invariant.same

pub loop-output-preserved : goal.loop-output-preserved
loop-output-preserved g c =
    let xs = c.loop-output.outputs in
    let I = c.loop-output.invariant in
    let within : c.loop-output.output-index < length xs = omega arith in
    record {
      same = given_set xs c.loop-output.output-index c.output-item.result c.begin.new.output c.begin.ensures.same ∙ I.same;
      set = each_more (IsSetOut (port_standing c.args.book.now c.args.mark)) c.loop-output.output-index c.args.outputs.now xs c.output-item.result c.begin.new.output within I.set c.in-Ok.ensures.set;
      begun = may_begin_more _ _ c.loop-output.output-index _ I.begun (given_at xs _ c.loop-output.output-index c.output-item.result I.same within) c.in-Ok.ensures.begun;
      told =
          told_more (output_begins (port_standing c.args.book.now c.args.mark)) (map given_of c.args.outputs.now) c.loop-output.output-index
          (given_of (slice_index_or xs c.loop-output.output-index c.output-item.result)) _ _ _
          (given_at xs _ c.loop-output.output-index c.output-item.result I.same within) I.told
          (said_output (port_standing c.args.book.now c.args.mark) (slice_index_or xs c.loop-output.output-index c.output-item.result) c.begin.new.output _ _ _ _ c.begin.ensures.same c.in-Ok.ensures.next c.port-in-Ok.ensures c.put.ensures c.output.ensures);
    }

pub returns-clause-begun : goal.returns-clause-begun
returns-clause-begun g c =
    let many : length (map given_of c.args.outputs.now) ≤ c.loop-output.output-index = let same = length-map c.args.outputs.now given_of in omega arith in
    all_may_begin _ _ c.loop-output.output-index many c.loop-output.invariant.begun

pub returns-clause-told : goal.returns-clause-told
returns-clause-told g c =
    let many : length (map given_of c.args.outputs.now) ≤ c.loop-output.output-index = let same = length-map c.args.outputs.now given_of in omega arith in
    told_all (output_begins (port_standing c.args.book.now c.args.mark)) (map given_of c.args.outputs.now) c.loop-output.output-index _ _ many c.loop-output.invariant.told

pub returns-clause-set : goal.returns-clause-set
returns-clause-set g c =
    each_all (IsSetOut (port_standing c.args.book.now c.args.mark)) c.loop-output.output-index c.args.outputs.now c.loop-output.outputs
    (let same = ap length c.loop-output.invariant.same in let one = length-map c.args.outputs.now given_of in let other = length-map c.loop-output.outputs given_of in omega (arith, same, one, other))
    c.loop-output.invariant.set

pub loop-output-init : goal.loop-output-init
loop-output-init g c = record { same = refl; set = refl; begun = λ k below h is. absurd (omega (arith, below)); told = noticed_none (g.L.Listener.told c.args.listener.now) }
