use Rattle.tp_flush.proofs.Begins.{begun}
use Rattle.tp_flush.proofs.flusher.Flusher.over.Given as goal

abbrev pub ghost-of : goal.ghost-of
ghost-of g a =
    let bytes = (g.D.Disk.state a._value.now.0.disk).now.bytes in
    let told = a._value.now.1.value in
    record { world = begun g.J.Naming.before told.net told.base told.journal bytes a._value.now.0.place.next; opened = bytes }
