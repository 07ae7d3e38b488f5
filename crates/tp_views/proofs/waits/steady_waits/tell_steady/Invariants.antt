use Rattle.tp_views.specs.declared.steady.TheConstants.{MAX_TRIES}
use Rattle.tp_views.proofs.Tries.{Tries}
use Rattle.tp_views.proofs.waits.steady_waits.tell_steady.Given as goal

abbrev pub invariant-loop-left : goal.invariant-loop-left
invariant-loop-left g l =
    Tries MAX_TRIES l.left (g.D.Disk.size_of l.fn.disk) (g.D.Disk.size_of l.disk) (g.D.Disk.failures_of l.fn.disk) (g.D.Disk.failures_of l.disk)
    (g.D.Disk.state l.fn.disk) (g.D.Disk.state l.disk) (g.D.Disk.reads l.fn.disk) (g.D.Disk.reads l.disk)

abbrev pub decreases-loop-left : goal.decreases-loop-left
decreases-loop-left g l = l.left
