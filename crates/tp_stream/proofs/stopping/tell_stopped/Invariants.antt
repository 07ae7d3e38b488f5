-- How nodes have stopped was told so far, and nothing else.
use Rattle.std.proofs.Common.{length}
use Rattle.tp_stream.specs.Told.{ToldLater}
use Rattle.tp_stream.proofs.stopping.tell_stopped.Given as goal

abbrev pub invariant-loop-node : goal.invariant-loop-node
invariant-loop-node g l = ToldLater (length g.J.Naming.start.nodes) (g.L.Listener.told l.initial.listener) (g.L.Listener.told l.listener)
