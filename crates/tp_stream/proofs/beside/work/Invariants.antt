use Rattle.std.proofs.Common.{◌≡◌, Some}
use Rattle.tp_stream.specs.Accounted.{MadeByTurns}
use Rattle.tp_stream.proofs.beside.work.Given as goal

abbrev pub invariant-loop : goal.invariant-loop
invariant-loop g l = (l.seat.hand.of ≡ Some l.net.queue) × MadeByTurns g.J.Naming.start l.seat.slips
