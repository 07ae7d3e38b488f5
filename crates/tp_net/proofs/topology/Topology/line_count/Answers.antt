use Rattle.std.proofs.Common.{arith}
use Rattle.tp_net.proofs.Topologies.{has_shape}
use Rattle.tp_net.proofs.topology.Topology.line_count.Goals as goal

pub returns-clause-bound : goal.returns-clause-bound
returns-clause-bound c =
    let shape = has_shape _ c.self.invariant in
    omega (arith, shape.few_nodes, shape.few_ports, c.len.ensures.value, c.from.ensures, c.port_line.ensures)
