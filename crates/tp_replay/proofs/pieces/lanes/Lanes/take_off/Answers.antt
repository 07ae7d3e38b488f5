use Rattle.std.proofs.Common.{◌≡◌, false, true, sym, ap, ◌∙◌, arith, refl, length, length-set, drop}
use Rattle.tp_model.specs.Network.{is_first, on_line}
use Rattle.tp_replay.proofs.Room.{taken-none, taken-past, taken-front, short_without}
use Rattle.tp_replay.proofs.pieces.lanes.Lanes.take_off.Goals as goal

pub returns-then-line-count-clause-takes : goal.returns-then-line-count-clause-takes
returns-then-line-count-clause-takes c =
    let n = c.self.inside in
    rw (← c.self.view_is) (taken-past n.lines c.args.line c.args.token (omega (arith, c.if-line-count.true, c.count.ensures)))

pub returns-then-not-is_front-clause-takes : goal.returns-then-not-is_front-clause-takes
returns-then-not-is_front-clause-takes c =
    let n = c.self.inside in
    let not : is_first (on_line n.lines c.args.line) c.args.token ≡ false = sym (c.is_front.ensures (on_line n.lines c.args.line) (sym c.front.ensures)) ∙ c.if-not-is_front.true in
    rw (← c.self.view_is) (taken-none n.lines c.args.line c.args.token not)

pub invariant_of-self : goal.invariant_of-self
invariant_of-self c = rw c.pop.ensures.after (short_without c.self.inside.lines c.args.line c.self.invariant)

pub returns-clause-same : goal.returns-clause-same
returns-clause-same c =
    let n = c.self.inside in
    rw (← c.self.view_is) (record { wires = refl; count = ap length c.pop.ensures.after ∙ length-set n.lines c.args.line (drop 1 (on_line n.lines c.args.line)) })

pub returns-clause-takes : goal.returns-clause-takes
returns-clause-takes c =
    let n = c.self.inside in
    let is : is_first (on_line n.lines c.args.line) c.args.token ≡ true = sym (c.is_front.ensures (on_line n.lines c.args.line) (sym c.front.ensures)) ∙ c.if-not-is_front.false in
    rw (← c.self.view_is, c.pop.ensures.after) (taken-front n.lines c.args.line c.args.token is)
