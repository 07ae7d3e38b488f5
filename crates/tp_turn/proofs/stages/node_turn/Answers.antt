use Rattle.tp_turn.specs.Moments.{moment_of}
use Rattle.tp_turn.proofs.Staging.{turn_done}
use Rattle.tp_turn.proofs.stages.node_turn.Goals as goal

pub returns-clause-done : goal.returns-clause-done
returns-clause-done c =
    rw c.commit_turn-ran.ensures.ran
    (turn_done c.args.number c.in_ok-takes.takes c.args.quantum c.run_node-stretch.result.ran (moment_of c.args.book.now c.args.node.now) (moment_of c.open_turn.new.book c.open_turn.new.node)
    (moment_of c.commit_turn-ran.new.book c.run_node-stretch.new.node) c.requires.free c.in_ok-takes.ensures.opens c.commit_turn-ran.ensures.added
    c.run_node-stretch.ensures.asked c.run_node-stretch.ensures.why c.run_node-stretch.ensures.kept c.run_node-stretch.ensures.shared)
