use Rattle.std.proofs.Common.{inr, rules}
use Rattle.tp_shared.specs.Holds.{in_hand}
use Rattle.tp_stream.proofs.Accounted.{host_broke, host_broken, host_made, host_one}
use Rattle.tp_stream.proofs.Quiets.{host_rests}
use Rattle.tp_stream.proofs.rounds.host_turn.Goals as goal

pub returns-in-Ok-clause-rests : goal.returns-in-Ok-clause-rests
returns-in-Ok-clause-rests g c nothing =
    host_rests g.J.Naming.start c.in-Ok.takes (in_hand c.new.result c.args.seat.now) (in_hand c.host_turn.new.seen c.host_turn.new.seat) c.in-Ok.ensures.went (search rules)

pub returns-in-Ok-clause-turn : goal.returns-in-Ok-clause-turn
returns-in-Ok-clause-turn g c quantum = host_one g.J.Naming.start quantum c.in-Ok.takes c.args.seat.now c.host_turn.new.seat c.in-Ok.ensures.turned

pub returns-in-Err-clause-turn : goal.returns-in-Err-clause-turn
returns-in-Err-clause-turn g c quantum = inr (host_broke g.J.Naming.start c.args.seat.now c.host_turn.new.seat c.in-Err.ensures.turned)

pub returns-in-Ok-clause-made : goal.returns-in-Ok-clause-made
returns-in-Ok-clause-made g c = host_made g.J.Naming.start c.in-Ok.takes c.args.seat.now c.host_turn.new.seat c.in-Ok.ensures.turned

pub returns-in-Err-clause-made : goal.returns-in-Err-clause-made
returns-in-Err-clause-made g c = host_broken g.J.Naming.start c.args.seat.now c.host_turn.new.seat c.in-Err.ensures.turned
