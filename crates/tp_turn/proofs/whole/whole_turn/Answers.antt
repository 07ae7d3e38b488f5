use Rattle.std.proofs.Common.{length, ap, arith}
use Rattle.tp_node.proofs.Answered.{why_most}
use Rattle.tp_turn.specs.Moments.{moment_of}
use Rattle.tp_turn.proofs.Ahead.{ran_ahead}
use Rattle.tp_turn.proofs.Wholes.{whole_done}
use Rattle.tp_turn.proofs.whole.whole_turn.Goals as goal

pub commit_whole-ran-requires-clause-turned : goal.commit_whole-ran-requires-clause-turned
commit_whole-ran-requires-clause-turned c =
    let taken = c.in_ok-taken.taken in
    let ran = c.run_node-stretch.result.ran in
    let most = why_most ran.why c.args.quantum ran.count _ _ c.run_node-stretch.ensures.why in
    ran_ahead c.open_whole.new.book c.args.number taken.takes taken.sent.items c.run_node-stretch.result.sent.items ran.count c.open_whole.new.node c.run_node-stretch.new.node
    c.in_ok-taken.ensures.ahead (omega (arith, most, c.requires.quantum)) c.run_node-stretch.ensures.steps c.run_node-stretch.ensures.kept

pub returns-clause-done : goal.returns-clause-done
returns-clause-done c =
    rw c.commit_whole-ran.ensures.ran
    (whole_done c.args.number c.args.quantum (record { takes = c.len-takes.result; ran = c.run_node-stretch.result.ran }) c.in_ok-taken.taken (moment_of c.args.book.now c.args.node.now) (moment_of c.open_whole.new.book c.open_whole.new.node)
    (moment_of c.commit_whole-ran.new.book c.run_node-stretch.new.node) c.requires.free c.in_ok-taken.ensures.opens (omega (arith, c.len-takes.ensures.value, ap length c.tokens_of.ensures.tokens)) c.commit_whole-ran.ensures.added
    c.run_node-stretch.ensures.asked c.run_node-stretch.ensures.why c.run_node-stretch.ensures.kept c.run_node-stretch.ensures.shared)
