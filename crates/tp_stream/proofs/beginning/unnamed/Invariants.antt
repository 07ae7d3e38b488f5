-- Each port so far that has a wire is named.
use Rattle.std.proofs.Common.{◌<◌, ℕ}
use Rattle.tp_stream.specs.Fitting.{IsNamed}
use Rattle.tp_stream.proofs.beginning.unnamed.Given as goal

abbrev pub invariant-loop-port : goal.invariant-loop-port
invariant-loop-port g l = (p : ℕ) → p < l.port → IsNamed l.topology l.outputs p
