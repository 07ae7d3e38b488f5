use Rattle.std.proofs.Common.{ℕ, ◌+◌, ◌<◌, refl, length, sym, ap, ◌∙◌}
use Rattle.tp_book.proofs.Lower.{drop_all, Data, has_wire, sent, length_pushed, Token}
use Rattle.tp_book.specs.Room.{from_line}
use Rattle.tp_book.proofs.Sending.{known_at, next_sent}
use Rattle.tp_book.proofs.send.send_all.Goals as goal

pub loop-m-preserved : goal.loop-m-preserved
loop-m-preserved c =
    let N = next_sent (has_wire c.args.wires.now) c.loop-m.lines _ c.args.first c.args.tokens.now c.loop-m.m-index (0, Data 0) c.loop-m-test.true c.loop-m.invariant.1 c.loop-m.invariant.2 in (
      ap length c.send.ensures ∙ length_pushed _ _ _ _ ∙ c.loop-m.invariant.0,
      rw c.send.ensures N.behind,
      rw c.send.ensures N.leads,
    )

pub returns : goal.returns
unfolding sent
returns c = sym (ap (λ ms. sent (has_wire c.args.wires.now) c.loop-m.lines (from_line c.args.first ms)) (drop_all c.loop-m.m-index c.args.tokens.now c.loop-m-test.false)) ∙ c.loop-m.invariant.2

pub send-requires-clause-wired : goal.send-requires-clause-wired
send-requires-clause-wired c = known_at (λ (m : ℕ × Token). c.args.first + m.0 < length c.args.wires.now) c.args.tokens.now c.loop-m.m-index (0, Data 0) c.loop-m-test.true c.requires.known

pub send-requires-clause-room : goal.send-requires-clause-room
send-requires-clause-room c =
    let N = next_sent (has_wire c.args.wires.now) c.loop-m.lines _ c.args.first c.args.tokens.now c.loop-m.m-index (0, Data 0) c.loop-m-test.true c.loop-m.invariant.1 c.loop-m.invariant.2 in
    N.here

pub loop-m-init : goal.loop-m-init
loop-m-init c = (c.requires.there, c.requires.room, refl)
