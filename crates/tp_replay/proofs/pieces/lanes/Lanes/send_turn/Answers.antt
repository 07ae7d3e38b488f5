use Rattle.std.proofs.Common.{◌≡◌, ◌+◌, ◌++◌, sym, subst}
use Rattle.std.specs.Prelude.{MatchBool}
use Rattle.tp_replay.proofs.Lower.{map-append, Token, has_wire, sent, from_line}
use Rattle.tp_replay.specs.Lanes.{Overfills}
use Rattle.tp_replay.proofs.Room.{overfilled_first, sent_both}
use Rattle.tp_replay.proofs.pieces.lanes.Lanes.send_turn.Goals as goal

pub returns-then-not-send_all-clause-sends : goal.returns-then-not-send_all-clause-sends
returns-then-not-send_all-clause-sends c =
    let xs = c.args.made.now.for_tokens.items in
    let ys = c.args.made.now.in_steps.items in
    let over = rw c.deref.ensures.0 at c.if-not-send_all.ensures.sends in
    subst (Overfills (has_wire c.args.self.now.wires) c.args.self.now.lines) (sym (map-append (λ m. (c.args.first + m.0, m.1)) xs ys))
    (overfilled_first (has_wire c.args.self.now.wires) c.args.self.now.lines (from_line c.args.first xs) (from_line c.args.first ys) over)

pub returns-clause-sends : goal.returns-clause-sends
returns-clause-sends c =
    let xs = c.args.made.now.for_tokens.items in
    let ys = c.args.made.now.in_steps.items in
    let one = rw c.deref.ensures.0 at c.if-not-send_all.ensures.sends in
    let two = rw (c.send_all.ensures.same.wires, one, c.deref-2.ensures.0) at c.send_all-2.ensures.sends in
    subst
    (λ ms. MatchBool c.send_all-2.result (c.send_all-2.new.self.lines ≡ sent (has_wire c.args.self.now.wires) c.args.self.now.lines ms) (Overfills (has_wire c.args.self.now.wires) c.args.self.now.lines ms))
    (sym (map-append (λ m. (c.args.first + m.0, m.1)) xs ys))
    (sent_both (has_wire c.args.self.now.wires) c.args.self.now.lines c.send_all-2.new.self.lines (from_line c.args.first xs) (from_line c.args.first ys) c.send_all-2.result two)
