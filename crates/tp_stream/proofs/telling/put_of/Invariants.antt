-- Up to where the outputs of each port so far were put; there is a place for each port.
use Rattle.std.proofs.Common.{◌≡◌, ◌<◌, ℕ, get_or, length, None}
use Rattle.tp_model.specs.declared.limits.TheConstants.{MAX_PORTS}
use Rattle.tp_stream.specs.Told.{put_in}
use Rattle.tp_stream.proofs.telling.put_of.Given as goal

abbrev pub invariant-loop-port : goal.invariant-loop-port
invariant-loop-port g l = record {
  many : length l.put ≡ MAX_PORTS;
  each : (p : ℕ) → p < l.port → get_or l.put p None ≡ put_in l.outputs p;
}
