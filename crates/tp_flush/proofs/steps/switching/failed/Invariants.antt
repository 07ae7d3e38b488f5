use Rattle.tp_flush.proofs.Switches.{failed_tail}
use Rattle.tp_flush.proofs.steps.switching.failed.Given as goal

abbrev pub ghost-of : goal.ghost-of
ghost-of g a = record { world = failed_tail a._value.now.whole.known.world (g.D.Disk.state a._value.now.store.disk).now; opened = a._value.now.whole.known.opened }
