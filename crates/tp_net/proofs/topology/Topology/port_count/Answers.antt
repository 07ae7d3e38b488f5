use Rattle.std.proofs.Common.{arith}
use Rattle.tp_net.proofs.Topologies.{has_shape}
use Rattle.tp_net.proofs.topology.Topology.port_count.Goals as goal

pub returns-clause-few : goal.returns-clause-few
returns-clause-few c = let shape = has_shape _ c.self.invariant in omega (arith, shape.few_ports, c.from.ensures)
