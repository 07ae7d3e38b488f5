use Rattle.std.proofs.Common.{◌≡◌, ◌<◌, true, false, sym, ap, subst, arith, rules, length}
use Rattle.std.specs.Prelude.{Err}
use Rattle.tp_turn.specs.Hosted.{HostDone, LeavesPorts, HostTurns}
use Rattle.tp_turn.proofs.Hosting.{ports_none, ports_more, host_takes, host_full, host_stops}
use Rattle.tp_turn.proofs.ports.host_turn.Goals as goal

pub loop-port-init : goal.loop-port-init
loop-port-init c = ports_none c.args.book.now

pub act_on_port-requires-clause-there : goal.act_on_port-requires-clause-there
act_on_port-requires-clause-there c =
    let first = c.known.ensures.shaped in
    let here = c.known-in-loop-port.ensures.shaped in
    let grew = c.loop-port.invariant.added.grew in
    omega (arith, first.wires, here.wires, ap (λ s. length s.wires) grew.start, ap length grew.runs, c.ports-ports.ensures)

pub loop-port-preserved : goal.loop-port-preserved
loop-port-preserved c =
    ports_more c.loop-port.port c.loop-port.full c.is_full_by-full.result c.in_ok-left.left c.args.book.now c.loop-port.book c.act_on_port.new.book
    c.is_full_by-full.ensures c.loop-port.invariant c.in_ok-left.ensures

pub returns-in_err-left : goal.returns-in_err-left
returns-in_err-left c =
    let e : c.from_residual.result ≡ Err c.in_err-left.field-0.0 = search rules in
    let first = c.known.ensures.shaped in
    let there : c.loop-port.port < length c.args.book.now.state.ports = omega (arith, c.ports-ports.ensures, first.few_ports) in
    subst (λ r. HostDone (HostTurns r) c.args.book.now c.act_on_port.new.book) (sym e)
    (host_stops c.loop-port.port c.loop-port.full c.in_err-left.field-0.0 c.args.book.now c.loop-port.book c.act_on_port.new.book there c.loop-port.invariant c.in_err-left.ensures)

pub returns-then-full : goal.returns-then-full
returns-then-full c =
    let D : HostDone (LeavesPorts (length c.args.book.now.state.ports) true) c.args.book.now c.loop-port.book = search rules in
    host_full c.args.book.now c.loop-port.book D

pub returns : goal.returns
returns c =
    let D : HostDone (LeavesPorts (length c.args.book.now.state.ports) false) c.args.book.now c.loop-port.book = search rules in
    host_takes _ c.args.book.now c.loop-port.book D (omega (arith, c.next-first.ensures, c.next-last.ensures))
