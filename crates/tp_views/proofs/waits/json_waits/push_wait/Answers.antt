use Rattle.tp_views.proofs.Joined.{joined_four, on_ok}
use Rattle.tp_views.proofs.waits.json_waits.push_wait.Goals as goal

pub returns : goal.returns
returns c =
    on_ok _ _ c.push_why.result (λ why. joined_four _ _ _ _ _ _ _ _ _ c.in_ok-push_begun.ensures c.in_ok-push_resumes.ensures c.in_ok-push_whom.ensures why) c.push_why.ensures
