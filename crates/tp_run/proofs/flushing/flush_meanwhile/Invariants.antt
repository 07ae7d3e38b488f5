use Rattle.tp_run.proofs.Lower.{AreTrue, WereTrue, Began, IsSameProcess, Walked}
use Rattle.tp_run.specs.Failures.{CountsFailures}
use Rattle.tp_run.proofs.flushing.flush_meanwhile.Given as goal

abbrev pub invariant-loop : goal.invariant-loop
invariant-loop g l = record {
  process : IsSameProcess l.fn.first l.flusher;
  failures : CountsFailures l.fn.first l.flusher;
  premise : WereTrue l.fn.first.reads l.flusher.reads;
  walks : AreTrue l.flusher.reads → Began g.J.Naming.formatted g.J.Naming.before l.fn.first.opened → Walked l.fn.first l.flusher;
}
