use Rattle.std.proofs.Common.{◌≡◌, ℕ, List, ap, ◌∙◌, map}
use Rattle.tp_net.proofs.Lower.{Bor, keys_of, items_from_collect, YieldsList-from_copied, YieldsList-from_rest, IfOk-weaker, Said}
use Rattle.tp_net.proofs.Kept.{names_kept}
use Rattle.tp_net.proofs.declarations.Declarations.names.Goals as goal

pub returns : goal.returns
returns c =
    IfOk-weaker c.collect.result (λ names. names.items ≡ keys_of c.self.inside.nodes.entries) (λ names. map (λ name. name.now) names.items ≡ map (λ node. node.0) c.args.self.now.nodes)
    (λ names is. ap (λ keys. map (λ (name : Bor (List ℕ)). name.now) keys) is ∙ names_kept c.self.inside.nodes.entries
    ∙ ap (λ (said : Said). map (λ node. node.0) said.nodes) c.self.view_is)
    (items_from_collect c.collect.result c.collect.ensures.ran
    (YieldsList-from_copied (YieldsList-from_rest (keys_of c.self.inside.nodes.entries) (c.copied.ensures.source ∙ c.keys.ensures.rest))))
