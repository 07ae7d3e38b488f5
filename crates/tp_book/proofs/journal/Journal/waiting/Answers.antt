use Rattle.tp_book.specs.Inside.{state_inside}
use Rattle.tp_book.proofs.Commit.{line_kinds}
use Rattle.tp_book.proofs.journal.Journal.waiting.Goals as goal

pub waiting-requires-clause-data : goal.waiting-requires-clause-data
waiting-requires-clause-data c = (line_kinds (state_inside c.self.inside) c.self.invariant.keeps c.args.line).0

pub waiting-requires-clause-ack : goal.waiting-requires-clause-ack
waiting-requires-clause-ack c = (line_kinds (state_inside c.self.inside) c.self.invariant.keeps c.args.line).1
