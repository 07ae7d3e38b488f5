use Rattle.std.proofs.Common.{◌≡◌, true, false, length, refl, sym, ◌∙◌}
use Rattle.tp_law_network.specs.Piece.{sends}
use Rattle.tp_replay.specs.Held.{has}
use Rattle.tp_replay.specs.NodesInside.{nodes_held}
use Rattle.tp_replay.proofs.Halves.{taken_elsewhere, taken_here}
use Rattle.tp_replay.proofs.Changed.{lanes_inside, lanes_network}
use Rattle.tp_replay.proofs.pieces.nodes_part.NodesPart.take_front.Goals as goal

pub returns-then-not-sends : goal.returns-then-not-sends
returns-then-not-sends c = taken_elsewhere c.args.self.now c.args.line c.args.token (sym c.sends.ensures ∙ c.if-not-sends.true)

pub invariant_of-self : goal.invariant_of-self
invariant_of-self c = lanes_inside c.self.inside c.self.invariant c.take_off.new.self c.take_off.ensures.same

pub returns : goal.returns
returns c =
    let n = c.self.inside in
    let mine : sends (has c.args.self.now) (length c.args.self.now.network.nodes) c.args.line ≡ true = sym c.sends.ensures ∙ c.if-not-sends.false in
    let mine = rw (← c.self.view_is) at mine in
    rw (← c.self.view_is)
    (taken_here (nodes_held n) _ c.args.line c.args.token _ c.take_off.new.self.lines (record { first = refl; past = refl })
    (lanes_network n c.self.invariant c.take_off.new.self c.take_off.ensures.same) mine c.take_off.ensures.takes)
