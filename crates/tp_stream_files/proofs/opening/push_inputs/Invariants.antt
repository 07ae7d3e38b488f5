use Rattle.std.proofs.Common.{◌≡◌, ◌++◌, map, take}
use Rattle.tp_stream_files.specs.Any.{path_from}
use Rattle.tp_stream_files.specs.Inputs.{named_input}
use Rattle.tp_stream_files.specs.Named.{input_from}
use Rattle.tp_stream_files.specs.Opening.{KeepsFiles}
use Rattle.tp_stream_files.proofs.opening.push_inputs.Given as goal

abbrev pub invariant-loop-end : goal.invariant-loop-end
invariant-loop-end g l = record {
  kept : KeepsFiles (g.S.EndFiles.calls l.initial.files) (g.S.EndFiles.calls l.files);
  inputs : map (λ i. named_input i.port (path_from g.F.EndFile.calls i.source)) l.inputs.items
      ≡ map (λ i. named_input i.port (path_from g.F.EndFile.calls i.source)) l.initial.inputs.items ++ map input_from (take l.end-index l.ends.ins.items);
}
