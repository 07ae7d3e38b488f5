use Rattle.std.proofs.Common.{◌+◌, drop, take, refl, ap, ◌∙◌}
use Rattle.tp_replay.proofs.Lower.{take_all, Data, has_wire, sent, from_line}
use Rattle.tp_replay.proofs.Room.{overfilled_among, sent_more, split_at}
use Rattle.tp_replay.proofs.pieces.lanes.Lanes.send_all.Goals as goal

pub loop-m-init : goal.loop-m-init
unfolding sent
loop-m-init c = (record { wires = refl; count = refl }, refl)

pub returns-then-not-send-clause-same : goal.returns-then-not-send-clause-same
returns-then-not-send-clause-same c =
    record { wires = c.send.ensures.same.wires ∙ c.loop-m.invariant.0.wires; count = c.send.ensures.same.count ∙ c.loop-m.invariant.0.count }

pub returns-then-not-send-clause-sends : goal.returns-then-not-send-clause-sends
returns-then-not-send-clause-sends c =
    let inv = c.loop-m.invariant in
    let over = rw (inv.0.wires, inv.1, c.from.ensures) at c.if-not-send.ensures.sends in
    overfilled_among (has_wire c.args.self.now.wires) c.args.self.now.lines (from_line c.args.first (take c.loop-m.m-index c.args.tokens.now)) _ (from_line c.args.first (drop (c.loop-m.m-index + 1) c.args.tokens.now))
    (from_line c.args.first c.args.tokens.now) (split_at c.args.first c.args.tokens.now c.loop-m.m-index (0, Data 0) c.loop-m-test.true) over

pub loop-m-preserved : goal.loop-m-preserved
loop-m-preserved c =
    let inv = c.loop-m.invariant in
    let on = rw (inv.0.wires, inv.1, c.from.ensures) at c.if-not-send.ensures.sends in (
      record { wires = c.send.ensures.same.wires ∙ inv.0.wires; count = c.send.ensures.same.count ∙ inv.0.count },
      on ∙ sent_more (has_wire c.args.self.now.wires) c.args.self.now.lines c.args.first c.args.tokens.now c.loop-m.m-index (0, Data 0) c.loop-m-test.true,
    )

pub returns-clause-sends : goal.returns-clause-sends
returns-clause-sends c =
    c.loop-m.invariant.1 ∙ ap (λ ms. sent (has_wire c.args.self.now.wires) c.args.self.now.lines (from_line c.args.first ms)) (take_all c.loop-m.m-index c.args.tokens.now c.loop-m-test.false)
