use Rattle.tp_tests_opening.proofs.Netting.{home_added, leaves_added}
use Rattle.tp_tests_opening.proofs.deeds.does.Goals as goal

pub returns-in-Turn-clause-leaves : goal.returns-in-Turn-clause-leaves
returns-in-Turn-clause-leaves c =
    let D = c.node_turn.ensures.done in
    leaves_added c.args.number c.node_turn.new.node.live D.acts c.args.book.now c.node_turn.new.book D.added

pub returns-in-Turn-clause-home : goal.returns-in-Turn-clause-home
returns-in-Turn-clause-home c =
    let D = c.node_turn.ensures.done in
    home_added c.args.number c.args.node.now c.node_turn.new.node D.acts c.args.book.now c.node_turn.new.book D.added c.node_turn.ensures.is c.requires.home

pub returns-in-Whole-clause-leaves : goal.returns-in-Whole-clause-leaves
returns-in-Whole-clause-leaves c =
    let D = c.whole_turn.ensures.done in
    leaves_added c.args.number c.whole_turn.new.node.live D.acts c.args.book.now c.whole_turn.new.book D.added

pub returns-in-Whole-clause-home : goal.returns-in-Whole-clause-home
returns-in-Whole-clause-home c =
    let D = c.whole_turn.ensures.done in
    home_added c.args.number c.args.node.now c.whole_turn.new.node D.acts c.args.book.now c.whole_turn.new.book D.added c.whole_turn.ensures.is c.requires.home
