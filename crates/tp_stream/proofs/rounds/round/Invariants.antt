use Rattle.std.proofs.Common.{◌≡◌, ◌+◌, ◌-◌, ◌^◌}
use Rattle.std.specs.Prelude.{false, min}
use Rattle.tp_stream.specs.Accounted.{MadeByTurns}
use Rattle.tp_stream.specs.Quiet.{HaveRested, IsStill}
use Rattle.tp_stream.proofs.rounds.round.Given as goal

abbrev pub invariant-loop : goal.invariant-loop
invariant-loop g l = record {
  rested : HaveRested g.J.Naming.start l.turns.whose l.turns.idle;
  still : l.seen.is_running ≡ false → IsStill g.J.Naming.start;
  made : l.turns.made ≡ min (l.fn.turns.made + l.counter) (2 ^ 64 - 1);
  busy : l.turns.is_busy ≡ l.fn.turns.is_busy;
  turns : MadeByTurns g.J.Naming.start l.fn.seat → MadeByTurns g.J.Naming.start l.seat;
}
