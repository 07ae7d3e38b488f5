use Rattle.std.proofs.Common.{◌≡◌, map, false, Ok, None, length, refl, ap, subst, ◌∙◌}
use Rattle.tp_stream.proofs.Lower.{walked_nowhere, given_input}
use Rattle.tp_stream.specs.Failures.{answer_failed}
use Rattle.tp_stream.specs.Served.{ServedOn}
use Rattle.tp_stream.proofs.Failures.{none_failed}
use Rattle.tp_stream.proofs.HandedFrom.{fed_none, fed_then}
use Rattle.tp_stream.proofs.Looks.{looks_then, none_looked}
use Rattle.tp_stream.proofs.Notices.{later_none, later_then}
use Rattle.tp_stream.proofs.Served.{served_still, served_then}
use Rattle.tp_stream.proofs.serving.laps.Goals as goal

pub loop-init : goal.loop-init
loop-init g c = record {
  served =
      served_still g.J.Naming.formatted g.J.Naming.before false c.args.flusher.now c.args.flusher.now c.args.streams.now.outputs.items
      (λ k. k) (λ k began. walked_nowhere c.args.flusher.now (c.known.ensures.disk k)) (record { opened = refl; size = refl; topology = refl })
      (λ rests. none_failed c.args.flusher.now rests);
  answer = record { why = tt; inputs = tt; begun = tt };
  told = later_none (length g.J.Naming.start.nodes) (g.L.Listener.told c.args.listener.now);
  ends = tt;
  fed = fed_none g.J.Naming.accepted (map (λ i. given_input i.port (g.I.Source.input i.source)) c.args.streams.now.inputs.items) c.args.going.now.host;
  looks = none_looked c.args.ground.pace.task (g.P.Stop.answers c.args.stop.now);
  noted = λ N. N;
  queue = c.requires.queue;
  made = c.requires.made;
  rested = c.requires.rested;
}

pub loop-preserved : goal.loop-preserved
loop-preserved g c =
    let start = g.J.Naming.formatted in
    let before = g.J.Naming.before in
    let old = c.args.flusher.now in
    let was = c.args.streams.now.outputs.items in
    let mid = c.loop.streams.outputs.items in
    let going : c.loop.last ≡ Ok None = c.in-Ok-None.is ∙ ap Ok (rw c.in-Ok-None.is at c.in-Ok-None.field-0-is) in
    record {
      served =
          served_then start before (answer_failed c.lap-last.result) old c.loop.flusher c.lap-last.new.flusher was mid c.lap-last.new.streams.outputs.items
          (subst (λ last. ServedOn start before (answer_failed last) old c.loop.flusher was mid) going c.loop.invariant.served) c.lap-last.ensures.served;
      answer = c.lap-last.ensures.answer;
      told = later_then (length g.J.Naming.start.nodes) _ _ _ c.loop.invariant.told c.lap-last.ensures.told;
      looks =
          looks_then g.J.Naming.start c.args.ground.pace.task (g.P.Stop.answers c.args.stop.now)
          (g.P.Stop.answers c.loop.stop) (g.P.Stop.answers c.lap-last.new.stop) c.loop.last c.lap-last.result going c.loop.invariant.looks c.lap-last.ensures.answer.why
          c.lap-last.ensures.looks;
      ends = c.lap-last.ensures.ends;
      fed = fed_then g.J.Naming.accepted _ _ _ _ _ _ c.loop.invariant.fed c.lap-last.ensures.fed;
      noted = λ N. c.lap-last.ensures.noted (c.loop.invariant.noted N);
      queue = c.lap-last.ensures.queue;
      made = c.lap-last.ensures.made;
      rested = c.lap-last.ensures.rested;
    }
