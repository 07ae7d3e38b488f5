-- The inputs so far have all that their ports have accepted, and that was told.
use Rattle.std.proofs.Common.{map, take}
use Rattle.tp_stream.proofs.Lower.{given_input, Noticed}
use Rattle.tp_stream.specs.Standing.{HaveAcceptedBelow, accepted_at}
use Rattle.tp_stream.specs.Told.{input_begins}
use Rattle.tp_stream.proofs.beginning.begin_inputs.Given as goal

abbrev pub invariant-loop-input : goal.invariant-loop-input
invariant-loop-input g l = record {
  begun : HaveAcceptedBelow l.input-index (accepted_at l.book) (map (λ i. given_input i.port (g.I.Source.input i.source)) l.inputs);
  told : Noticed (map (input_begins (accepted_at l.book)) (take l.input-index (map (λ i. given_input i.port (g.I.Source.input i.source)) l.inputs))) (g.L.Listener.told l.initial.listener) (g.L.Listener.told l.listener);
}
