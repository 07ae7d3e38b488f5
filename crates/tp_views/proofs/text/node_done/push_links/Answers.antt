use Rattle.tp_views.proofs.Joined.{joined_four, on_ok}
use Rattle.tp_views.proofs.text.node_done.push_links.Goals as goal

pub returns : goal.returns
returns c =
    on_ok _ _ c.push_link-4.result
    (λ last. joined_four _ _ _ _ _ _ _ _ _ c.in_ok-push_link.ensures c.in_ok-push_link-2.ensures c.in_ok-push_link-3.ensures last)
    c.push_link-4.ensures
