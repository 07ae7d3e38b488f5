use Rattle.std.proofs.Common.{◌≡◌, take, map}
use Rattle.tp_views.specs.Scene.{port_held}
use Rattle.tp_views.proofs.waits.scene.ports_held.Given as goal

abbrev pub invariant-loop-port : goal.invariant-loop-port
invariant-loop-port l = l.held.items ≡ map (λ port. port_held port.port) (take l.port-index l.ports)
