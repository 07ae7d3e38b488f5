use Rattle.std.proofs.Common.{map, ◌≡◌, Some, length}
use Rattle.std.specs.Prelude.{IfErr, IfOk, IfSome, OnOk}
use Rattle.tp_stream.proofs.Lower.{list_all, is_over, given_input}
use Rattle.tp_stream.specs.Accounted.{MadeByTurns}
use Rattle.tp_stream.specs.FailedEnds.{NamesEnd}
use Rattle.tp_stream.specs.Failures.{answer_failed}
use Rattle.tp_stream.specs.HandedFrom.{FedFrom}
use Rattle.tp_stream.specs.Looks.{HaveLooked}
use Rattle.tp_stream.specs.Noted.{AllNoted}
use Rattle.tp_stream.specs.Quiet.{HaveRested}
use Rattle.tp_stream.specs.Served.{ServedAnswer, ServedOn}
use Rattle.tp_stream.specs.Told.{ToldLater}
use Rattle.tp_stream.proofs.serving.laps.Given as goal

abbrev pub invariant-loop : goal.invariant-loop
invariant-loop g l = record {
  served :
      ServedOn g.J.Naming.formatted g.J.Naming.before (answer_failed l.last) l.fn.flusher l.flusher l.fn.streams.outputs.items l.streams.outputs.items;
  answer : ServedAnswer g.J.Naming.start l.ground.pace.task (list_all (λ i. is_over i.ended i.is_blocked) l.streams.inputs.items) l.last;
  told : ToldLater (length g.J.Naming.start.nodes) (g.L.Listener.told l.fn.listener) (g.L.Listener.told l.listener);
  looks : IfOk l.last (HaveLooked l.ground.pace.task (g.P.Stop.answers l.fn.stop) (g.P.Stop.answers l.stop));
  ends : IfErr l.last (NamesEnd l.streams.outputs.items (map (λ i. i.port) l.streams.inputs.items));
  fed : FedFrom g.J.Naming.accepted (map (λ i. given_input i.port (g.I.Source.input i.source)) l.fn.streams.inputs.items) (map (λ i. given_input i.port (g.I.Source.input i.source)) l.streams.inputs.items) l.fn.going.host l.going.host;
  noted :
      AllNoted g.J.Naming.start l.fn.streams.outputs.items l.fn.going.seat l.fn.going.steps l.fn.going.host
      → AllNoted g.J.Naming.start l.streams.outputs.items l.going.seat l.going.steps l.going.host;
  queue : IfSome l.seat (λ seat. seat.hand.of ≡ Some l.ground.net.now.queue);
  made : IfSome l.seat (λ seat. MadeByTurns g.J.Naming.start seat.slips);
  rested : OnOk l.last (HaveRested g.J.Naming.start l.going.turns.whose l.going.turns.idle);
}
