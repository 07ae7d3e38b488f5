use Rattle.std.proofs.Common.{◌<◌, arith, ap, sym, ◌∙◌, append-nil, length, get_or}
use Rattle.tp_stream_files.specs.Named.{output_to}
use Rattle.tp_stream_files.proofs.Pushed.{map_more_behind}
use Rattle.tp_stream_files.proofs.Keeping.{keeps_none, keeps_then}
use Rattle.tp_stream_files.proofs.opening.push_outputs.Goals as goal

pub returns-in_err-push_output-clause-kept : goal.returns-in_err-push_output-clause-kept
returns-in_err-push_output-clause-kept g c = keeps_then _ _ _ c.loop-end.invariant.kept c.push_output.ensures.kept

pub loop-end-init : goal.loop-end-init
loop-end-init g c = record { kept = keeps_none _; outputs = sym (append-nil _) }

pub loop-end-preserved : goal.loop-end-preserved
loop-end-preserved g c = record {
  kept = keeps_then _ _ _ c.loop-end.invariant.kept c.push_output.ensures.kept;
  outputs =
      let end = c.end-item.result in
      let index = c.loop-end.end-index in
      let haves = c.args.ends.now.haves.items in
      let outs = c.args.ends.now.outs.items in
      let same = c.deref-end-items.ensures.value in
      let long = ap length same in
      let test = c.loop-end-test.true in
      let low : index < length outs = omega (arith, test, long) in
      map_more_behind (output_to haves) outs index end _ _ _ low c.loop-end.invariant.outputs
      (ap (output_to haves) (c.end-item.is ∙ ap (λ ends. get_or ends index end) same)) c.in_ok-push_output.ensures.outputs;
}
