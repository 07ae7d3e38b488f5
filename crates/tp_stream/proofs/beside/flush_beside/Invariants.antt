use Rattle.std.proofs.Common.{◌≡◌, false, Some}
use Rattle.std.specs.Prelude.{IfSome}
use Rattle.tp_stream.proofs.Lower.{AreTrue, WereTrue, Resting, Began, IsSameProcess, Walked}
use Rattle.tp_stream.specs.Accounted.{MadeByTurns}
use Rattle.tp_stream.specs.Failures.{FailedWhere}
use Rattle.tp_stream.proofs.beside.flush_beside.Given as goal

abbrev pub invariant-loop : goal.invariant-loop
invariant-loop g l = record {
  queue : IfSome l.seat (λ seat. seat.hand.of ≡ Some l.net.queue);
  made : IfSome l.seat (λ seat. MadeByTurns g.J.Naming.start seat.slips);
  process : IsSameProcess l.fn.flusher l.flusher;
  failures : l.fn.flusher.world.at ≡ Resting → FailedWhere false l.fn.flusher l.flusher;
  premise : WereTrue l.fn.flusher.reads l.flusher.reads;
  walks : AreTrue l.flusher.reads → Began g.J.Naming.formatted g.J.Naming.before l.fn.flusher.opened → Walked l.fn.flusher l.flusher;
}
