use Rattle.std.proofs.Common.{sym, ap, ◌∙◌}
use Rattle.std.specs.Prelude.{bytes_eq}
use Rattle.tp_model.specs.TopologyText.{port_named}
use Rattle.tp_net.proofs.Kept.{position-map}
use Rattle.tp_net.proofs.declarations.Declarations.port_named.Goals as goal

pub returns-clause-value : goal.returns-clause-value
returns-clause-value c =
    c.get_index_of.ensures.index ∙ sym (position-map (λ port. bytes_eq c.args.name.now port) (λ key. key.now) c.self.inside.ports.keys) ∙ ap (λ said. port_named said c.args.name.now) c.self.view_is
