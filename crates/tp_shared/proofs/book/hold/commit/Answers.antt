use Rattle.tp_shared.proofs.Holding.{acted_commit}
use Rattle.tp_shared.proofs.book.hold.commit.Goals as goal

pub returns-clause-acted : goal.returns-clause-acted
returns-clause-acted c = acted_commit c.args.book.now c.commit_opened.new.book c.args.number c.args.opened c.args.stretch.ran.count c.args.node.now c.commit_opened.ensures.added
