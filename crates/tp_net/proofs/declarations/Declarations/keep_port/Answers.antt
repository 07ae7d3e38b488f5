use Rattle.tp_net.proofs.Kept.{port_kept}
use Rattle.tp_net.specs.Steps.{pages_by_name}
use Rattle.tp_net.proofs.declarations.Declarations.keep_port.Goals as goal

pub returns-clause-ok : goal.returns-clause-ok
returns-clause-ok c =
    port_kept c.args.self.now c.self.inside.ports.keys c.insert.new.self.keys (pages_by_name c.self.inside.nodes) c.self.inside.wires.items c.args.name c.self.view_is c.requires.new c.in-Ok.ensures.keys
