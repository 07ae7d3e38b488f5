use Rattle.tp_views.proofs.Joined.{joined_four, on_ok}
use Rattle.tp_views.proofs.waits.dot_waits.push_wires.Goals as goal

pub returns : goal.returns
returns c =
    on_ok _ _ c.push_wire-4.result (λ last. joined_four _ _ _ _ _ _ _ _ _ c.in_ok-push_wire.ensures c.in_ok-push_wire-2.ensures c.in_ok-push_wire-3.ensures last) c.push_wire-4.ensures
