use Rattle.tp_views.proofs.Joined.{joined_four, on_ok}
use Rattle.tp_views.proofs.waits.json_waits.push_links.Goals as goal

pub returns : goal.returns
returns c =
    on_ok _ _ c.push.result (λ last. joined_four _ _ _ _ _ _ _ _ _ c.in_ok-push_cycle.ensures c.in_ok-push_ends.ensures c.in_ok-push_ends-2.ensures last) c.push.ensures
