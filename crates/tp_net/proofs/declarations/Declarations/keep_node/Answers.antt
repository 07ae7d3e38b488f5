use Rattle.tp_net.proofs.Kept.{node_kept}
use Rattle.tp_net.specs.Steps.{names_in}
use Rattle.tp_net.proofs.declarations.Declarations.keep_node.Goals as goal

pub returns-clause-ok : goal.returns-clause-ok
returns-clause-ok c =
    node_kept c.args.self.now c.self.inside.nodes.entries c.insert.new.self.entries (names_in c.self.inside.ports) c.self.inside.wires.items c.args.name c.args.pages c.self.view_is c.requires.new c.in-Ok.ensures.entries
