use Rattle.std.proofs.Common.{◌≡◌, true, false, length, refl, sym, ◌∙◌}
use Rattle.tp_law_network.specs.Piece.{sends}
use Rattle.tp_replay.specs.Held.{has}
use Rattle.tp_replay.specs.HostInside.{host_held}
use Rattle.tp_replay.proofs.Halves.{taken_elsewhere, taken_here}
use Rattle.tp_replay.proofs.AtPorts.{lanes_inside, lanes_network}
use Rattle.tp_replay.proofs.pieces.host_part.HostPart.take_front.Goals as goal

pub returns-then-not-sends-clause-takes : goal.returns-then-not-sends-clause-takes
returns-then-not-sends-clause-takes c = taken_elsewhere c.args.self.now c.args.line c.args.token (sym c.sends.ensures ∙ c.if-not-sends.true)

pub invariant_of-self : goal.invariant_of-self
invariant_of-self c = lanes_inside c.self.inside c.self.invariant c.take_off.new.self c.take_off.ensures.same

pub returns-clause-takes : goal.returns-clause-takes
returns-clause-takes c =
    let n = c.self.inside in
    let mine : sends (has c.args.self.now) (length c.args.self.now.network.nodes) c.args.line ≡ true = sym c.sends.ensures ∙ c.if-not-sends.false in
    let mine = rw (← c.self.view_is) at mine in
    rw (← c.self.view_is)
    (taken_here (host_held n) _ c.args.line c.args.token _ c.take_off.new.self.lines (record { first = refl; past = refl })
    (lanes_network n c.self.invariant c.take_off.new.self c.take_off.ensures.same) mine c.take_off.ensures.takes)
