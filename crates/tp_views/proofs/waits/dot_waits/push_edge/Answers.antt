use Rattle.tp_views.proofs.Joined.{joined_four, on_ok}
use Rattle.tp_views.proofs.waits.dot_waits.push_edge.Goals as goal

pub returns : goal.returns
returns c =
    on_ok _ _ c.push.result (λ last. joined_four _ _ _ _ _ _ _ _ _ c.in_ok-push_edge_head.ensures c.in_ok-push_edge_label.ensures c.in_ok-push_spot_label.ensures last) c.push.ensures
