use Rattle.std.proofs.Common.{ap, ◌∙◌}
use Rattle.tp_model.specs.TopologyText.{node_named}
use Rattle.tp_net.proofs.Kept.{position-keys}
use Rattle.tp_net.proofs.declarations.Declarations.node_named.Goals as goal

pub returns-clause-value : goal.returns-clause-value
returns-clause-value c =
    c.get_index_of.ensures.index ∙ position-keys c.args.name.now c.self.inside.nodes.entries ∙ ap (λ said. node_named said c.args.name.now) c.self.view_is
