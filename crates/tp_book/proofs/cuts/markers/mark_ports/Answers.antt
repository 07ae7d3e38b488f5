use Rattle.std.proofs.Common.{◌≡◌, ◌+◌, ◌*◌, ◌-◌, length, sym, ap, subst, ◌∙◌, arith}
use Rattle.tp_book.proofs.Lower.{Marker, has_wire, pushed, sent, host_markers, length_pushed}
use Rattle.tp_book.specs.Room.{HasRoom}
use Rattle.tp_book.proofs.Sent.{ports_left}
use Rattle.tp_book.proofs.cuts.markers.mark_ports.Goals as goal

pub loop-done-preserved : goal.loop-done-preserved
unfolding sent
loop-done-preserved c =
    let on = has_wire c.args.wires.now in
    let left = ports_left c.args.nodes c.args.ports c.loop-done.done c.loop-done-test.true in
    let room = subst (HasRoom on c.loop-done.lines) left c.loop-done.invariant.1 in
    let is : c.send_some.new.lines ≡ pushed on c.loop-done.lines (4 * c.args.nodes + (c.args.ports - 1 - c.loop-done.done)) Marker = rw c.port_line-line.ensures at c.send_some.ensures in (
      ap length is ∙ length_pushed _ _ _ _ ∙ c.loop-done.invariant.0,
      rw is room.1,
      ap (λ lines. sent on lines (host_markers c.args.nodes (c.args.ports - (c.loop-done.done + 1)))) is ∙ ap (sent on c.loop-done.lines) (sym left) ∙ c.loop-done.invariant.2,
    )

pub returns : goal.returns
unfolding sent
returns c =
    let none : c.args.ports - c.loop-done.done ≡ 0 = omega (arith, c.loop-done-test.false) in
    sym (ap (λ n. sent (has_wire c.args.wires.now) c.loop-done.lines (host_markers c.args.nodes n)) none) ∙ c.loop-done.invariant.2
