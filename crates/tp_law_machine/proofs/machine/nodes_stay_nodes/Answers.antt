use Rattle.tp_law_machine.proofs.Images.{node_of_bytes}
use Rattle.tp_law_machine.proofs.Nodes.{node_steps, node_took}
use Rattle.tp_law_machine.proofs.machine.nodes_stay_nodes.Goals as goal

pub returns : goal.returns
returns c = record { spelt = node_of_bytes; runs = node_steps; takes = node_took }
