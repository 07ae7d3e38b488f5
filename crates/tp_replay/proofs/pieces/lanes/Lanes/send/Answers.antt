use Rattle.std.proofs.Common.{◌≡◌, true, false, sym, ap, ◌∙◌, arith, refl, length-set, ◌≤◌, length}
use Rattle.std.specs.Prelude.{not}
use Rattle.tp_replay.proofs.Lower.{has_wire, is_wired, on_line, wired_some, pushed_open, pushed_shut}
use Rattle.tp_replay.proofs.Room.{overfilled, pushed-past, short_with}
use Rattle.tp_replay.proofs.pieces.lanes.Lanes.send.Goals as goal

pub returns-then-is_none-clause-sends : goal.returns-then-is_none-clause-sends
returns-then-is_none-clause-sends c =
    let off : has_wire c.args.self.now.wires c.args.line ≡ false = ap is_wired (sym c.receiver.ensures) ∙ wired_some _ ∙ c.is_none.ensures ∙ ap not c.if-is_none.true in
    sym (pushed_shut (has_wire c.args.self.now.wires) c.args.self.now.lines c.args.line c.args.token off)

pub returns-then-line-count-clause-sends : goal.returns-then-line-count-clause-sends
returns-then-line-count-clause-sends c =
    let n = c.self.inside in
    rw (← c.self.view_is) (sym (pushed-past (has_wire n.wires.items) n.lines c.args.line c.args.token (omega (arith, c.if-line-count.true, c.count.ensures))))

pub returns-then-len-ge-MOST-clause-sends : goal.returns-then-len-ge-MOST-clause-sends
returns-then-len-ge-MOST-clause-sends c =
    let n = c.self.inside in
    let on : has_wire c.args.self.now.wires c.args.line ≡ true = ap is_wired (sym c.receiver.ensures) ∙ wired_some _ ∙ c.is_none.ensures ∙ ap not c.if-is_none.false in
    let on = rw (← c.self.view_is) at on in
    let full : 2 ≤ length (on_line n.lines c.args.line) = omega (arith, c.if-len-ge-MOST.true, c.len.ensures.value) in
    rw (← c.self.view_is) (overfilled (has_wire n.wires.items) n.lines c.args.line c.args.token on (omega (arith, c.if-line-count.false, c.count.ensures)) c.self.invariant full)

pub invariant_of-self : goal.invariant_of-self
invariant_of-self c =
    let n = c.self.inside in
    rw c.push.ensures (short_with n.lines c.args.line c.args.token c.self.invariant (omega (arith, c.if-len-ge-MOST.false, c.len.ensures.value)))

pub returns-clause-same : goal.returns-clause-same
returns-clause-same c =
    let n = c.self.inside in
    rw (← c.self.view_is) (record { wires = refl; count = ap length c.push.ensures ∙ length-set n.lines c.args.line _ })

pub returns-clause-sends : goal.returns-clause-sends
returns-clause-sends c =
    let n = c.self.inside in
    let on : has_wire c.args.self.now.wires c.args.line ≡ true = ap is_wired (sym c.receiver.ensures) ∙ wired_some _ ∙ c.is_none.ensures ∙ ap not c.if-is_none.false in
    let on = rw (← c.self.view_is) at on in
    rw (← c.self.view_is) (c.push.ensures ∙ sym (pushed_open (has_wire n.wires.items) n.lines c.args.line c.args.token on))
