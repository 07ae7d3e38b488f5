-- The sinks so far are for other ports.
use Rattle.std.proofs.Common.{◌≡◌, false, take}
use Rattle.tp_stream.specs.Fitting.{has_sink}
use Rattle.tp_stream.proofs.beginning.has_sink.Given as goal

abbrev pub invariant-loop-output : goal.invariant-loop-output
invariant-loop-output g l = has_sink l.port (take l.output-index l.outputs) ≡ false
