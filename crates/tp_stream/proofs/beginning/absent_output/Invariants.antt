-- none so far is past the ports
use Rattle.std.proofs.Common.{◌≡◌, drop, map}
use Rattle.tp_stream_files.specs.Outputs.{OutputValue}
use Rattle.tp_stream.specs.Fitting.{first_past}
use Rattle.tp_stream.proofs.beginning.absent_output.Given as goal

abbrev pub invariant-loop-output : goal.invariant-loop-output
invariant-loop-output g l = first_past l.ports (map (λ (o : OutputValue). o.port) (drop l.output-index l.outputs)) ≡ first_past l.ports (map (λ (o : OutputValue). o.port) l.outputs)
