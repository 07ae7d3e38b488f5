-- The outputs so far may begin, are set out and were told; all are given as they were, and the others are as they were.
use Rattle.std.proofs.Common.{◌≡◌, map, take}
use Rattle.tp_stream.proofs.Lower.{Noticed, given_of}
use Rattle.tp_stream.specs.Standing.{MayBeginBelow, port_standing}
use Rattle.tp_stream.specs.Steps.{IsSetOut}
use Rattle.tp_stream.specs.Told.{output_begins}
use Rattle.tp_stream.proofs.Puts.{EachTo}
use Rattle.tp_stream.proofs.beginning.begin_outputs.Given as goal

abbrev pub invariant-loop-output : goal.invariant-loop-output
invariant-loop-output g l = record {
  same : map given_of l.outputs ≡ map given_of l.fn.outputs;
  set : EachTo (IsSetOut (port_standing l.book l.mark)) l.output-index l.fn.outputs l.outputs;
  begun : MayBeginBelow l.output-index (port_standing l.book l.mark) (map given_of l.fn.outputs);
  told : Noticed (map (output_begins (port_standing l.book l.mark)) (take l.output-index (map given_of l.fn.outputs))) (g.L.Listener.told l.fn.listener) (g.L.Listener.told l.listener);
}
