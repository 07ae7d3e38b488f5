use Rattle.tp_turn.proofs.Entering.{turn_added, turn_is}
use Rattle.tp_turn.proofs.whole.commit.Goals as goal

pub returns-clause-added : goal.returns-clause-added
returns-clause-added c =
    turn_added c.args.book.now c.args.number c.args.takes.now c.args.count c.args.tokens.now c.args.node.now c.requires.turned
    c.commit_turn-note.new.self c.commit_turn-note.ensures.book c.commit_turn-note.ensures.agreed c.commit_turn-note.ensures.act

pub returns-clause-is : goal.returns-clause-is
returns-clause-is c =
    turn_is c.args.book.now c.args.number c.args.takes.now c.args.count c.args.tokens.now c.args.node.now c.requires.turned
    c.commit_turn-note.new.self c.commit_turn-note.ensures.book c.commit_turn-note.ensures.agreed c.commit_turn-note.ensures.act
