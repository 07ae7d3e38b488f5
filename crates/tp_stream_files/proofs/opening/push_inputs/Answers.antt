use Rattle.std.proofs.Common.{◌<◌, arith, ap, sym, ◌∙◌, append-nil, length, get_or}
use Rattle.tp_stream_files.specs.Named.{input_from}
use Rattle.tp_stream_files.proofs.Pushed.{map_more_behind}
use Rattle.tp_stream_files.proofs.Keeping.{keeps_none, keeps_then}
use Rattle.tp_stream_files.proofs.opening.push_inputs.Goals as goal

pub returns-in_err-push_input-clause-kept : goal.returns-in_err-push_input-clause-kept
returns-in_err-push_input-clause-kept g c = keeps_then _ _ _ c.loop-end.invariant.kept c.push_input.ensures.kept

pub loop-end-init : goal.loop-end-init
loop-end-init g c = record { kept = keeps_none _; inputs = sym (append-nil _) }

pub loop-end-preserved : goal.loop-end-preserved
loop-end-preserved g c = record {
  kept = keeps_then _ _ _ c.loop-end.invariant.kept c.push_input.ensures.kept;
  inputs =
      let end = c.end-item.result in
      let index = c.loop-end.end-index in
      let ins = c.args.ends.now.ins.items in
      let same = c.deref-end-items.ensures.value in
      let long = ap length same in
      let test = c.loop-end-test.true in
      let low : index < length ins = omega (arith, test, long) in
      map_more_behind input_from ins index end _ _ _ low c.loop-end.invariant.inputs
      (ap input_from (c.end-item.is ∙ ap (λ ends. get_or ends index end) same)) c.in_ok-push_input.ensures.inputs;
}
