use Rattle.std.proofs.Common.{◌≡◌, ◌<◌, Some, None, refl, sym, subst, rules}
use Rattle.std.specs.Prelude.{Err}
use Rattle.tp_turn.specs.declared.take.TheConstants.{TAKES}
use Rattle.tp_turn.specs.Turns.{InOrder}
use Rattle.tp_turn.specs.Moments.{moment_of, Done}
use Rattle.tp_turn.specs.Fronts.{AtFront, OnLine}
use Rattle.tp_turn.proofs.Adding.{order_none, order_more}
use Rattle.tp_turn.proofs.Lining.{front_none, front_some, line_left, line_stops, line_enough}
use Rattle.tp_turn.proofs.front.act_on_line.Goals as goal

pub loop-done-init : goal.loop-done-init
loop-done-init c = record {
  done = order_none c.args.number (λ at. AtFront c.args.number c.args.line) (moment_of c.args.book.now c.args.node.now) c.requires.is.there;
  is = c.requires.is;
}

pub loop-done-preserved : goal.loop-done-preserved
loop-done-preserved c =
    let none : c.in_ok-left.field-0 ≡ None = search rules in
    record {
      done = order_more c.args.number (λ at. AtFront c.args.number c.args.line) c.loop-done._done (moment_of c.args.book.now c.args.node.now)
          (moment_of c.loop-done.book c.loop-done.node) (moment_of c.act_on_front.new.book c.act_on_front.new.node) c.loop-done.invariant.done
          (front_none c.args.number c.args.line c.in_ok-left.field-0 (moment_of c.loop-done.book c.loop-done.node) (moment_of c.act_on_front.new.book c.act_on_front.new.node) none c.in_ok-left.ensures.answer);
      is = c.act_on_front.ensures.is;
    }

pub returns-in_err-left-clause-done : goal.returns-in_err-left-clause-done
returns-in_err-left-clause-done c =
    let e : c.from_residual.result ≡ Err c.in_err-left.field-0.0 = search rules in
    let few : c.loop-done._done < TAKES = search rules in
    let start = moment_of c.args.book.now c.args.node.now in
    let last = moment_of c.act_on_front.new.book c.act_on_front.new.node in
    subst (λ r. Done c.args.number (OnLine c.args.number c.args.line r) start last) (sym e)
    (line_stops c.args.number c.args.line c.loop-done._done start (moment_of c.loop-done.book c.loop-done.node) c.loop-done.invariant.done c.in_err-left.field-0.0 last
    c.in_err-left.ensures.answer.0 few c.in_err-left.ensures.answer.1)

pub returns-in-Some-clause-done : goal.returns-in-Some-clause-done
returns-in-Some-clause-done c =
    let some : c.in_ok-left.field-0 ≡ Some c.in-Some.left = search rules in
    let few : c.loop-done._done < TAKES = search rules in
    let here = moment_of c.loop-done.book c.loop-done.node in
    let last = moment_of c.act_on_front.new.book c.act_on_front.new.node in
    let answer = front_some c.args.number c.args.line c.in_ok-left.field-0 c.in-Some.left here last some c.in_ok-left.ensures.answer in
    line_left c.args.number c.args.line c.loop-done._done (moment_of c.args.book.now c.args.node.now) here c.loop-done.invariant.done c.in-Some.left last answer.0 few answer.1

pub returns-clause-done : goal.returns-clause-done
returns-clause-done c =
    let D : Done c.args.number (InOrder (λ at. AtFront c.args.number c.args.line) TAKES) (moment_of c.args.book.now c.args.node.now) (moment_of c.loop-done.book c.loop-done.node) = search rules in
    line_enough c.args.number c.args.line TAKES (moment_of c.args.book.now c.args.node.now) (moment_of c.loop-done.book c.loop-done.node) D refl
