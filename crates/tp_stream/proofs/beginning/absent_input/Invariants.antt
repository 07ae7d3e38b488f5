-- none so far is past the ports
use Rattle.std.proofs.Common.{◌≡◌, drop, map}
use Rattle.tp_stream.specs.Fitting.{first_past}
use Rattle.tp_stream.proofs.beginning.absent_input.Given as goal

abbrev pub invariant-loop-input : goal.invariant-loop-input
invariant-loop-input g l = first_past l.ports (map (λ i. i.port) (drop l.input-index l.inputs)) ≡ first_past l.ports (map (λ i. i.port) l.inputs)
