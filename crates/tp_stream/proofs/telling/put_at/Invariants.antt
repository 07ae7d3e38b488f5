-- none so far is for this port
use Rattle.std.proofs.Common.{◌≡◌, drop}
use Rattle.tp_stream.specs.Told.{put_in}
use Rattle.tp_stream.proofs.telling.put_at.Given as goal

abbrev pub invariant-loop-output : goal.invariant-loop-output
invariant-loop-output g l = put_in (drop l.output-index l.outputs) l.port ≡ put_in l.outputs l.port
