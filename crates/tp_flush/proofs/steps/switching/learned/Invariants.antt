use Rattle.tp_flush.proofs.Looks.{learned}
use Rattle.tp_flush.proofs.steps.switching.learned.Given as goal

abbrev pub ghost-of : goal.ghost-of
ghost-of g a = record { world = learned a._value.now.whole.known.world a._value.now.key.value; opened = a._value.now.whole.known.opened }
