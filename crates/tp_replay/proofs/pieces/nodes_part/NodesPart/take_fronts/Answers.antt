use Rattle.std.proofs.Common.{◌+◌, true, false, length, refl, sym, ap, subst, ◌∙◌}
use Rattle.tp_replay.proofs.Lower.{take_all, Data, by_line}
use Rattle.tp_replay.specs.Behind.{TakesTokens}
use Rattle.tp_replay.proofs.PartFronts.{fronts_more, fronts_stop}
use Rattle.tp_replay.proofs.Halves.{none_taken}
use Rattle.tp_replay.proofs.pieces.nodes_part.NodesPart.take_fronts.Goals as goal

pub returns-then-not-take_front : goal.returns-then-not-take_front
returns-then-not-take_front c =
    fronts_stop c.args.self.now c.take_front.new.self c.args.node c.args.tokens.now (c.loop-m.m-index + 1)
    (fronts_more c.args.self.now c.take_front.new.self c.args.node c.args.tokens.now c.loop-m.m-index (0, Data 0) c.loop-m-test.true c.loop-m.self c.loop-m.invariant false
    (rw c.incoming-line.ensures at c.if-not-take_front.ensures))

pub returns : goal.returns
returns c =
    subst (λ ms. TakesTokens c.args.self.now (by_line c.args.self.now.network.wires (length c.args.self.now.network.nodes) c.args.node ms) true c.loop-m.self)
    (take_all c.loop-m.m-index c.args.tokens.now c.loop-m-test.false) c.loop-m.invariant

pub loop-m-init : goal.loop-m-init
loop-m-init c = none_taken c.args.self.now

pub loop-m-preserved : goal.loop-m-preserved
loop-m-preserved c =
    fronts_more c.args.self.now c.take_front.new.self c.args.node c.args.tokens.now c.loop-m.m-index (0, Data 0) c.loop-m-test.true c.loop-m.self c.loop-m.invariant true
    (rw c.incoming-line.ensures at c.if-not-take_front.ensures)
