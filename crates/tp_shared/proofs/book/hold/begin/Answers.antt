use Rattle.tp_shared.proofs.Lower.{moment_of, opens_in_stay}
use Rattle.tp_shared.proofs.Holding.{acted_opens, opens_refused}
use Rattle.tp_shared.proofs.book.hold.begin.Goals as goal

pub returns-clause-acted : goal.returns-clause-acted
returns-clause-acted c =
    acted_opens c.args.book.now.form c.args.number c.open_in_form.result (moment_of c.args.book.now c.args.node.now) (moment_of c.open_in_form.new.book c.open_in_form.new.node) c.requires.free
    c.open_in_form.ensures.opens c.open_in_form.ensures.is

pub returns-clause-refused : goal.returns-clause-refused
returns-clause-refused c =
    opens_refused c.args.book.now.form c.args.number c.open_in_form.result (moment_of c.args.book.now c.args.node.now) (moment_of c.open_in_form.new.book c.open_in_form.new.node) c.open_in_form.ensures.opens

pub returns-clause-stays : goal.returns-clause-stays
returns-clause-stays c recorded =
    opens_in_stay c.args.book.now.form c.args.number c.open_in_form.result (moment_of c.args.book.now c.args.node.now) (moment_of c.open_in_form.new.book c.open_in_form.new.node) c.open_in_form.ensures.opens recorded
