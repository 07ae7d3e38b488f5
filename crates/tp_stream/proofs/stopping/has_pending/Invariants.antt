-- The nodes have taken all input of the ports so far.
use Rattle.std.proofs.Common.{◌<◌, ◌≤◌, ℕ}
use Rattle.tp_stream.proofs.Lower.{MAX_HELD, port_in, room_of}
use Rattle.tp_stream.proofs.stopping.has_pending.Given as goal

abbrev pub invariant-loop-port : goal.invariant-loop-port
invariant-loop-port l = (p : ℕ) → p < l.port → MAX_HELD ≤ room_of (port_in l.book p)
