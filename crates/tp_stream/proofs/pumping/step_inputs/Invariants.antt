-- What was handed in so far comes from the inputs, and the seat has its slips.
use Rattle.std.proofs.Common.{List, map}
use Rattle.tp_stream.proofs.Lower.{given_input, OutputValue}
use Rattle.tp_stream.specs.HandedFrom.{FedFrom}
use Rattle.tp_stream.specs.Noted.{StepsNoted}
use Rattle.tp_stream.proofs.pumping.step_inputs.Given as goal

abbrev pub invariant-loop-input : goal.invariant-loop-input
invariant-loop-input g l = record {
  fed : FedFrom g.J.Naming.accepted (map (λ i. given_input i.port (g.I.Source.input i.source)) l.fn.inputs) (map (λ i. given_input i.port (g.I.Source.input i.source)) l.inputs) l.fn.host l.host;
  noted : (outputs : List OutputValue) → StepsNoted outputs l.fn.seat l.fn.host → StepsNoted outputs l.seat l.host;
}
