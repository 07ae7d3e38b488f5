use Rattle.std.proofs.Common.{refl, ap, ◌∙◌}
use Rattle.tp_flush.specs.Flushing.{position}
use Rattle.tp_flush.proofs.Endings.{never_both}
use Rattle.tp_flush.proofs.Turns.{walked_nowhere, walked_recovers}
use Rattle.tp_flush.proofs.flusher.Flusher.turn_with.Goals as goal

-- ## The device failed earlier

pub returns-then-is_broken-clause-walks : goal.returns-then-is_broken-clause-walks
returns-then-is_broken-clause-walks g c k began = walked_nowhere c.args.self.now (c.known.ensures.disk k)

pub returns-then-is_broken-clause-recovers : goal.returns-then-is_broken-clause-recovers
returns-then-is_broken-clause-recovers g c k began =
    walked_recovers g.J.Naming.formatted c.args.self.now c.args.self.now (c.known.ensures.reached k began) (walked_nowhere c.args.self.now (c.known.ensures.disk k))

pub returns-then-is_broken-clause-ended : goal.returns-then-is_broken-clause-ended
returns-then-is_broken-clause-ended g c = (c.is_broken.ensures ∙ ap position c.if-is_broken.true, refl)

pub returns-then-is_broken-clause-thawed : goal.returns-then-is_broken-clause-thawed
returns-then-is_broken-clause-thawed g c i out = (c.known.ensures.gone i out).none

-- ## It has not

pub go-done-requires : goal.go-done-requires
go-done-requires g c = record { rests = c.is_broken.ensures ∙ ap position c.if-is_broken.false }

pub returns-clause-recovers : goal.returns-clause-recovers
returns-clause-recovers g c k began = walked_recovers g.J.Naming.formatted c.args.self.now c.go-done.new.self (c.known.ensures.reached (c.go-done.ensures.goes.premise k) began) (c.go-done.ensures.goes.walks k began)

pub returns-clause-stops : goal.returns-clause-stops
returns-clause-stops g c broken = never_both c.args.self.now.world.at (c.is_broken.ensures ∙ ap position c.if-is_broken.false) broken

pub returns-clause-thawed : goal.returns-clause-thawed
returns-clause-thawed g c i out = (c.known-2.ensures.gone i out).none
