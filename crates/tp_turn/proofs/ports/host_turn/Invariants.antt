use Rattle.tp_turn.specs.Hosted.{HostDone, LeavesPorts}
use Rattle.tp_turn.proofs.ports.host_turn.Given as goal

abbrev pub invariant-loop-port : goal.invariant-loop-port
invariant-loop-port l = HostDone (LeavesPorts l.port l.full) l.fn.book l.book
