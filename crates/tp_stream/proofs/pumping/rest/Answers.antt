use Rattle.std.proofs.Common.{map, refl, ap, ◌∙◌}
use Rattle.tp_stream_files.specs.Inputs.{given_input}
use Rattle.tp_stream.proofs.HandedFrom.{given_same, given_set}
use Rattle.tp_stream.proofs.pumping.rest.Goals as goal
use Rattle.tp_stream.proofs.pumping.rest.Goals.{then-port+then-not-would_wait, else-port, else-port-via-then-port+else-not-would_wait, else-port-via-else-port}

pub loop-next-preserved : goal.loop-next-preserved
loop-next-preserved g c = record {
  same =
      elim c.if-port.branch [
        | then-port+then-not-would_wait w ↦
            ap (map (λ i. given_input i.port (g.I.Source.input i.source))) w.inputs-is ∙ given_set (λ i. given_input i.port (g.I.Source.input i.source)) c.loop-next.inputs c.loop-next.next-index c.next-item.result w.would_wait.new.self (given_same _ _ _ _ w.would_wait.ensures.same.0 w.would_wait.ensures.same.1) ∙ c.loop-next.invariant.same
        | else-port w ↦
            ap (map (λ i. given_input i.port (g.I.Source.input i.source))) w.inputs-is
            ∙ (elim w.else-port.branch [
              | else-port-via-then-port+else-not-would_wait v ↦
                  ap (map (λ i. given_input i.port (g.I.Source.input i.source))) v.inputs-is ∙ given_set (λ i. given_input i.port (g.I.Source.input i.source)) c.loop-next.inputs c.loop-next.next-index c.next-item.result v.would_wait.new.self (given_same _ _ _ _ v.would_wait.ensures.same.0 v.would_wait.ensures.same.1) ∙ c.loop-next.invariant.same
              | else-port-via-else-port v ↦ ap (map (λ i. given_input i.port (g.I.Source.input i.source))) v.inputs-is ∙ given_set (λ i. given_input i.port (g.I.Source.input i.source)) c.loop-next.inputs c.loop-next.next-index c.next-item.result _ refl ∙ c.loop-next.invariant.same
            ])
      ];
}
