-- What turns journalled so far has its slips in the seat.
use Rattle.tp_stream.specs.Accounted.{MadeByTurns}
use Rattle.tp_stream.proofs.settling.settle.Given as goal

abbrev pub invariant-loop : goal.invariant-loop
invariant-loop g l = record { made : MadeByTurns g.J.Naming.start l.fn.seat → MadeByTurns g.J.Naming.start l.seat }
