use Rattle.std.proofs.Common.{◌≡◌, ◌++◌, map, take}
use Rattle.tp_stream_files.specs.Named.{output_to}
use Rattle.tp_stream_files.specs.Opening.{KeepsFiles}
use Rattle.tp_stream_files.proofs.opening.push_outputs.Given as goal

abbrev pub invariant-loop-end : goal.invariant-loop-end
invariant-loop-end g l = record {
  kept : KeepsFiles (g.S.EndFiles.calls l.initial.files) (g.S.EndFiles.calls l.files);
  outputs : l.outputs.items ≡ l.initial.outputs.items ++ map (output_to l.ends.haves.items) (take l.end-index l.ends.outs.items);
}
