use Rattle.std.specs.Prelude.{nat_le}
use Rattle.tp_book.specs.Book.{next_in_book}
use Rattle.tp_stream.proofs.Accounted.{all_found}
use Rattle.tp_stream.proofs.accounting.are_accounted.Goals as goal

pub returns-clause-all : goal.returns-clause-all
returns-clause-all g c is k began =
    all_found g.J.Naming.first c.args.flusher.now.world.journal c.args.held.now c.compare_host.new.self c.audit.new.self c.args.all.now c.audit.new.seat c.args.host.now c.settle_all.result
    (nat_le (next_in_book c.audit.new.self.book) c.args.flusher.now.world.mark) c.compare_host.ensures.same.0 c.audit.ensures.same.0 c.audit.ensures.same.1 c.compare_host.ensures.all
    c.audit.ensures.each c.settle_all.ensures.result is (c.settle_all.ensures.all is k began)
