use Rattle.tp_turn.specs.Tried.{fresh_image}
use Rattle.tp_turn.proofs.Ended.{trial_is}
use Rattle.tp_turn.proofs.trial.try_standing.Goals as goal

pub returns-in-Ok-output : goal.returns-in-Ok-output
returns-in-Ok-output c =
    trial_is (fresh_image c.args.image.now) c.in_ok-node.node.live c.in-Ok.lone c.turns.new.self c.args.turns c.args.quantum _ (record { output = c.in-Ok-output.output; standing = c.standing-standing.result })
    c.in_ok-node.ensures.0 c.in-Ok.ensures c.in_ok-turns.ensures c.in-Ok-output.ensures c.standing-standing.ensures
