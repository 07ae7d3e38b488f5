use Rattle.std.proofs.Common.{map, refl, ap, ◌∙◌}
use Rattle.tp_stream_files.specs.Inputs.{given_input}
use Rattle.tp_stream.proofs.HandedFrom.{given_same, given_set}
use Rattle.tp_stream.proofs.pumping.awaited_under.Goals as goal
use Rattle.tp_stream.proofs.pumping.awaited_under.Goals.{else-room-gt0-via-then-room-gt0+else-would_wait, else-room-gt0-via-else-room-gt0}

pub returns-then-would_wait-clause-same : goal.returns-then-would_wait-clause-same
returns-then-would_wait-clause-same g c =
    given_set (λ i. given_input i.port (g.I.Source.input i.source)) c.loop-next.inputs c.loop-next.next-index c.next-item.result c.would_wait.new.self (given_same _ _ _ _ c.would_wait.ensures.same.0 c.would_wait.ensures.same.1) ∙ c.loop-next.invariant.same

pub loop-next-preserved : goal.loop-next-preserved
loop-next-preserved g c = record {
  same =
      elim c.else-room-gt0.branch [
        | else-room-gt0-via-then-room-gt0+else-would_wait w ↦
            ap (map (λ i. given_input i.port (g.I.Source.input i.source))) w.inputs-is ∙ given_set (λ i. given_input i.port (g.I.Source.input i.source)) c.loop-next.inputs c.loop-next.next-index c.next-item.result w.would_wait.new.self (given_same _ _ _ _ w.would_wait.ensures.same.0 w.would_wait.ensures.same.1) ∙ c.loop-next.invariant.same
        | else-room-gt0-via-else-room-gt0 w ↦ ap (map (λ i. given_input i.port (g.I.Source.input i.source))) w.inputs-is ∙ given_set (λ i. given_input i.port (g.I.Source.input i.source)) c.loop-next.inputs c.loop-next.next-index c.next-item.result _ refl ∙ c.loop-next.invariant.same
      ];
}
