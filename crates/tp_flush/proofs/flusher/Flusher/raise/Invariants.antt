use Rattle.tp_flush.proofs.Looks.{raised}
use Rattle.tp_flush.proofs.flusher.Flusher.raise.Given as goal

abbrev pub ghost-of : goal.ghost-of
ghost-of g a = record { world = raised a._value.now.whole.known.world; opened = a._value.now.whole.known.opened }
