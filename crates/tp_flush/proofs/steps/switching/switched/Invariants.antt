use Rattle.tp_flush.proofs.Switches.{switched}
use Rattle.tp_flush.proofs.steps.switching.switched.Given as goal

abbrev pub ghost-of : goal.ghost-of
ghost-of g a = record {
  world = switched a._value.now.whole.known.world a._value.now.key.value a._value.now.store.place.next (g.D.Disk.state a._value.now.store.disk).now;
  opened = a._value.now.whole.known.opened;
}
