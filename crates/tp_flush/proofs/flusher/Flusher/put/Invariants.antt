use Rattle.tp_flush.proofs.Puts.{after_put}
use Rattle.tp_flush.proofs.flusher.Flusher.put.Given as goal

abbrev pub ghost-of : goal.ghost-of
ghost-of g a = record {
  world = after_put a._value.now.store.broken a._value.now.whole.known.world (g.D.Disk.state a._value.now.store.disk).now;
  opened = a._value.now.whole.known.opened;
}
