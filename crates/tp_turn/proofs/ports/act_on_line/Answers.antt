use Rattle.std.proofs.Common.{◌≡◌, ◌<◌, Some, None, refl, sym, subst, rules}
use Rattle.std.specs.Prelude.{Err}
use Rattle.tp_turn.specs.declared.take.TheConstants.{TAKES}
use Rattle.tp_turn.specs.Turns.{InOrder}
use Rattle.tp_turn.specs.Hosted.{HostDone, PortAtFront, OnPortLine}
use Rattle.tp_turn.proofs.Hosting.{host_order_none, host_order_more, port_none, port_some, port_left, port_stops, port_enough}
use Rattle.tp_turn.proofs.ports.act_on_line.Goals as goal

pub loop-done-init : goal.loop-done-init
loop-done-init c = host_order_none (λ at. PortAtFront c.args.line) c.args.book.now

pub loop-done-preserved : goal.loop-done-preserved
loop-done-preserved c =
    let none : c.in_ok-left.field-0 ≡ None = search rules in
    host_order_more (λ at. PortAtFront c.args.line) c.loop-done._done c.args.book.now c.loop-done.book c.act_on_front.new.book c.loop-done.invariant
    (port_none c.args.line c.in_ok-left.field-0 c.loop-done.book c.act_on_front.new.book none c.in_ok-left.ensures)

pub returns-in_err-left : goal.returns-in_err-left
returns-in_err-left c =
    let e : c.from_residual.result ≡ Err c.in_err-left.field-0.0 = search rules in
    let few : c.loop-done._done < TAKES = search rules in
    subst (λ r. HostDone (OnPortLine c.args.line r) c.args.book.now c.act_on_front.new.book) (sym e)
    (port_stops c.args.line c.loop-done._done c.args.book.now c.loop-done.book c.loop-done.invariant c.in_err-left.field-0.0 c.act_on_front.new.book
    c.in_err-left.ensures.0 few c.in_err-left.ensures.1)

pub returns-in-Some : goal.returns-in-Some
returns-in-Some c =
    let some : c.in_ok-left.field-0 ≡ Some c.in-Some.left = search rules in
    let few : c.loop-done._done < TAKES = search rules in
    let answer = port_some c.args.line c.in_ok-left.field-0 c.in-Some.left c.loop-done.book c.act_on_front.new.book some c.in_ok-left.ensures in
    port_left c.args.line c.loop-done._done c.args.book.now c.loop-done.book c.loop-done.invariant c.in-Some.left c.act_on_front.new.book answer.0 few answer.1

pub returns : goal.returns
returns c =
    let D : HostDone (InOrder (λ at. PortAtFront c.args.line) TAKES) c.args.book.now c.loop-done.book = search rules in
    port_enough c.args.line TAKES c.args.book.now c.loop-done.book D refl
