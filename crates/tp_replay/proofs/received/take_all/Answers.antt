use Rattle.std.proofs.Common.{◌+◌, length, drop, get_or, sym, ap, ◌∙◌, arith}
use Rattle.std.specs.Prelude.{is_some}
use Rattle.tp_replay.proofs.Lower.{option_map, length-append, Data, t414, on_link, took_all, takes_ok}
use Rattle.tp_replay.proofs.TakenAll.{with_answers, next_taken, taken_behind, answers_twice, all_done}
use Rattle.tp_replay.proofs.TurnOfNode.{at_most_one}
use Rattle.tp_replay.proofs.received.take_all.Goals as goal

pub take-requires : goal.take-requires
take-requires c = ap is_some (next_taken c.args.tokens.now c.loop-m.m-index c.loop-m.node.live (0, Data 0) c.loop-m-test.true c.loop-m.invariant.some).took

pub loop-m-preserved : goal.loop-m-preserved
loop-m-preserved c =
    let tokens = c.args.tokens.now in
    let i = c.loop-m.m-index in
    let link = (get_or tokens i (0, Data 0)).0 in
    let now = c.take.new.self.live in
    let answer = on_link link c.in-Ok.answer in
    let did = takes_ok _ _ link c.loop-m.node.live now c.in-Ok.answer c.in-Ok.ensures.takes in
    let B = taken_behind tokens i c.loop-m.node.live (0, Data 0) (now, answer) c.loop-m-test.true c.loop-m.invariant.some did in
    record {
      few = omega (arith, c.loop-m.invariant.few, ap length c.add_answer.ensures, length-append c.loop-m.answers.items answer, at_most_one link c.in-Ok.answer);
      thawed = c.in-Ok.ensures.kept ∙ c.loop-m.invariant.thawed;
      some = B.rest;
      is =
          ap (λ answers. option_map (with_answers answers) (took_all t414 (drop (i + 1) tokens) now)) c.add_answer.ensures
          ∙ sym (answers_twice c.loop-m.answers.items answer (took_all t414 (drop (i + 1) tokens) now))
          ∙ ap (option_map (with_answers c.loop-m.answers.items)) (sym B.is) ∙ c.loop-m.invariant.is;
    }

pub returns-clause-took : goal.returns-clause-took
returns-clause-took c =
    sym c.loop-m.invariant.is ∙ all_done c.args.tokens.now c.loop-m.m-index c.loop-m.node.live c.loop-m.answers.items c.loop-m-test.false
