use Rattle.tp_views.proofs.Joined.{joined_three, on_ok}
use Rattle.tp_views.proofs.text.status_text.push_halts.Goals as goal

pub returns : goal.returns
returns c = on_ok _ _ c.push-2.result (λ ending. joined_three _ _ _ _ _ _ _ c.in_ok-push.ensures c.in_ok-push_all_halted.ensures ending) c.push-2.ensures
