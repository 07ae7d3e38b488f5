use Rattle.tp_shared.proofs.Lower.{moment_of, records_stay}
use Rattle.tp_shared.proofs.Closing.{acted_records}
use Rattle.tp_shared.proofs.book.hold.record.Goals as goal

pub returns-clause-acted : goal.returns-clause-acted
returns-clause-acted c = acted_records c.args.number (moment_of c.args.book.now c.args.node.now) (moment_of c.record_asked.new.book c.record_asked.new.node) c.requires.free c.record_asked.ensures.done

pub returns-clause-stays : goal.returns-clause-stays
returns-clause-stays c recorded =
    records_stay c.args.number (moment_of c.args.book.now c.args.node.now) (moment_of c.record_asked.new.book c.record_asked.new.node) c.record_asked.ensures.done.acts c.record_asked.ensures.done.did recorded
