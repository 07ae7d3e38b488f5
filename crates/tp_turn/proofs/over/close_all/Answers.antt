use Rattle.std.proofs.Common.{◌≡◌, ◌+◌, ◌*◌, length, ap, subst, arith, rules}
use Rattle.tp_turn.specs.Turns.{InOrder}
use Rattle.tp_turn.specs.Hosted.{HostDone}
use Rattle.tp_turn.specs.Over.{ClosesOver}
use Rattle.tp_turn.proofs.Hosting.{host_order_none, host_order_more}
use Rattle.tp_turn.proofs.over.close_all.Goals as goal

pub loop-line-init : goal.loop-line-init
loop-line-init c = host_order_none ClosesOver c.args.book.now

pub close_over-requires : goal.close_over-requires
close_over-requires c =
    let first = c.known.ensures.shaped in
    let here = c.known-in-loop-line.ensures.shaped in
    let grew = c.loop-line.invariant.added.grew in
    omega (arith, first.lines, first.wires, here.lines, here.wires, ap (λ s. length s.wires) grew.start, ap length grew.runs, c.nodes.ensures, c.ports.ensures)

pub loop-line-preserved : goal.loop-line-preserved
loop-line-preserved c = host_order_more ClosesOver c.loop-line.line c.args.book.now c.loop-line.book c.close_over.new.book c.loop-line.invariant c.close_over.ensures

pub returns : goal.returns
returns c =
    let all : 4 * c.nodes.result + c.ports.result ≡ length c.args.book.now.state.lines = omega (arith, c.known.ensures.shaped.lines, c.nodes.ensures, c.ports.ensures) in
    let D : HostDone (InOrder ClosesOver (4 * c.nodes.result + c.ports.result)) c.args.book.now c.loop-line.book = search rules in
    record { acts = D.acts; added = D.added; did = subst (λ n. InOrder ClosesOver n c.args.book.now D.acts c.loop-line.book) all D.did }
