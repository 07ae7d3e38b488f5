use Rattle.std.proofs.Common.{◌≡◌, take, map}
use Rattle.tp_views.specs.Status.{port_seen}
use Rattle.tp_views.proofs.text.status.ports_seen.Given as goal

abbrev pub invariant-loop-port : goal.invariant-loop-port
invariant-loop-port l = l.seen.items ≡ map (λ port. port_seen port.port) (take l.port-index l.ports)
