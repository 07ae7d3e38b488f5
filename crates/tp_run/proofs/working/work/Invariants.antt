use Rattle.std.proofs.Common.{◌≡◌, Some, length}
use Rattle.tp_work.specs.declared.heed.Heed.TheVariants.{Unbroken}
use Rattle.tp_run.specs.Worked.{Worked}
use Rattle.tp_run.proofs.working.work.Given as goal

abbrev pub invariant-loop : goal.invariant-loop
invariant-loop g l =
    (l.seat.hand.of ≡ Some l.net.queue) × Worked g.J.Naming.start l.net.quantum (length l.seat.answers) l.seat.slips × (l.seat.heed ≡ Unbroken)
