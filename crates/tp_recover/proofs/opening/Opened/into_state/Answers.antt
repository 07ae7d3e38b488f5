use Rattle.std.proofs.Common.{refl, sym, ap, ◌∙◌, map, Some}
use Rattle.tp_recover.proofs.Lower.{NodeState, Network, t414, next_of, history_of}
use Rattle.tp_recover.proofs.ReplayedCuts.{replayed_opened}
use Rattle.tp_recover.proofs.opening.Opened.into_state.Goals as goal

pub returns-clause-opened : goal.returns-clause-opened
returns-clause-opened c =
    let o = c.self.inside in
    let leads = c.self.invariant.leads in
    replayed_opened o.form o.head.topology o.base o.cut.network leads.0 o.replay _ c.topology-topology.ensures.valid c.self.invariant.cut c.self.invariant.nodes leads.1
    refl (c.in_ok-net.ensures.again ∙ c.into_parts-network.ensures.network) c.into_parts-network.ensures.kept refl refl c.into_parts-network.ensures.next c.self.invariant.age
    (c.in_ok-net.ensures.spelt ∙ ap (λ (s : Network NodeState). map (λ node. Some node) s.nodes) (sym c.in_ok-net.ensures.again))

pub returns-clause-next : goal.returns-clause-next
returns-clause-next c =
    let o = c.self.inside in
    let leads = c.self.invariant.leads in
    c.into_parts-network.ensures.next ∙ (history_of t414 o.form o.cut.network o.base o.replay leads.0 leads.1).next ∙ ap next_of c.self.view_is
