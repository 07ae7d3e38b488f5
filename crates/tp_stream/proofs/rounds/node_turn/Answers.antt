use Rattle.std.proofs.Common.{inr}
use Rattle.tp_shared.specs.Holds.{in_hand}
use Rattle.tp_stream.proofs.Accounted.{node_broke, node_broken, node_made, node_one}
use Rattle.tp_stream.proofs.Quiets.{node_rests}
use Rattle.tp_stream.proofs.rounds.node_turn.Goals as goal

pub returns-in-Ok-clause-rests : goal.returns-in-Ok-clause-rests
returns-in-Ok-clause-rests g c nothing =
    let D = c.did_of.ensures in
    node_rests g.J.Naming.start c.args.number c.args.quantum c.in-Ok.turn (in_hand c.new.result c.args.seat.now) (in_hand c.turn.new.seen c.turn.new.seat) c.in-Ok.ensures.went (D.taken nothing) (D.count nothing) (D.rests nothing)

pub returns-in-Ok-clause-turn : goal.returns-in-Ok-clause-turn
returns-in-Ok-clause-turn g c = node_one g.J.Naming.start c.args.number c.args.quantum c.in-Ok.turn c.args.seat.now c.turn.new.seat c.requires.there c.in-Ok.ensures.turned

pub returns-in-Err-clause-turn : goal.returns-in-Err-clause-turn
returns-in-Err-clause-turn g c = inr (node_broke g.J.Naming.start c.args.number c.args.seat.now c.turn.new.seat c.requires.there c.in-Err.ensures.turned)

pub returns-in-Ok-clause-made : goal.returns-in-Ok-clause-made
returns-in-Ok-clause-made g c =
    node_made g.J.Naming.start c.args.number c.args.quantum c.in-Ok.turn c.args.seat.now c.turn.new.seat c.requires.there c.in-Ok.ensures.turned

pub returns-in-Err-clause-made : goal.returns-in-Err-clause-made
returns-in-Err-clause-made g c = node_broken g.J.Naming.start c.args.number c.args.seat.now c.turn.new.seat c.requires.there c.in-Err.ensures.turned
