use Rattle.tp_stream.proofs.Quiets.{turn_more}
use Rattle.tp_stream.proofs.rounds.one_turn.Goals as goal

pub returns-in-Ok-clause-rested : goal.returns-in-Ok-clause-rested
returns-in-Ok-clause-rested g c =
    let T = c.count.ensures in
    turn_more g.J.Naming.start c.nodes-nodes.result c.args.turns.now.whose c.args.turns.now.idle c.count.new.self.whose c.count.new.self.idle c.nodes-nodes.ensures
    c.requires.rested T.whose T.one (λ some. record { had = c.in-Ok.ensures.had ((T.rests some).0); still = c.requires.still ((T.rests some).1) })

pub returns-in-None-clause-rested : goal.returns-in-None-clause-rested
returns-in-None-clause-rested g c =
    let n = c.count-in-None in
    let T = n.ensures in
    turn_more g.J.Naming.start c.nodes-nodes.result c.args.turns.now.whose c.args.turns.now.idle n.new.self.whose n.new.self.idle c.nodes-nodes.ensures
    c.requires.rested T.whose T.one (λ some. absurd (let did = (T.rests some).0 in let refused = c.refused.ensures in cc))
