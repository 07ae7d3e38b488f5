use Rattle.std.proofs.Common.{sym, ap, subst, ◌∙◌}
use Rattle.tp_run.proofs.Lower.{AreTrue, Stage, Began, IsAheadOf, Flushing}
use Rattle.tp_run.specs.Output.{PrintedOf}
use Rattle.tp_run.proofs.Shown.{may_show, output_shown}
use Rattle.tp_run.proofs.serving.print_settled.Goals as goal

pub print_from-requires-clause-mark : goal.print_from-requires-clause-mark
print_from-requires-clause-mark g c = c.requires.mark ∙ ap (λ (f : Flushing). f.world.mark) (sym c.settle_book.ensures.same.0)

pub print_from-requires-clause-ahead : goal.print_from-requires-clause-ahead
print_from-requires-clause-ahead g c k began =
    let start = g.J.Naming.formatted in
    let same = c.settle_book.ensures.same in
    let first = subst (λ (f : Flushing). Began start g.J.Naming.before f.opened) same.0 began in
    subst (λ (f : Flushing). IsAheadOf start f.world c.settle_book.new.held.book) (sym same.0)
    (subst (λ (stage : Stage). IsAheadOf start c.args.flusher.now.world stage.book) (sym same.1) (c.settle_book.ensures.ahead k first))

pub returns-clause-shown : goal.returns-clause-shown
returns-clause-shown g c k began =
    let start = g.J.Naming.formatted in
    let w = c.args.flusher.now.world in
    let ahead = subst (λ (stage : Stage). IsAheadOf start w stage.book) (sym c.settle_book.ensures.same.1) (c.settle_book.ensures.ahead k began) in
    may_show start w c.settle_book.new.held.book c.args.outset.port c.args.mark c.args.outset.confirmed c.args.flusher.now.state (g.O.Outlet.value c.args.out.now) (g.O.Outlet.value c.print_from.new.out)
    c.print_from.result ahead c.requires.mark
    (subst (λ (f : Flushing). PrintedOf c.settle_book.new.held.book c.args.outset.port c.args.mark c.args.outset.confirmed f.state (g.O.Outlet.value c.args.out.now) (g.O.Outlet.value c.print_from.new.out) c.print_from.result)
    c.settle_book.ensures.same.0 c.print_from.ensures.printed)

pub returns-clause-receipt : goal.returns-clause-receipt
returns-clause-receipt g c =
    let start = g.J.Naming.formatted in
    let w = c.args.flusher.now.world in
    output_shown (AreTrue c.settle_book.new.self.reads) _ start w c.settle_book.new.held.book c.args.outset.port c.args.mark c.args.outset.confirmed (g.O.Outlet.value c.args.out.now).taken
    (g.O.Outlet.value c.print_from.new.out).taken c.args.seat.now c.print_from.new.seat c.args.key.now c.print_from.new.key c.print_from.result
    (λ k began. subst (λ (stage : Stage). IsAheadOf start w stage.book) (sym c.settle_book.ensures.same.1) (c.settle_book.ensures.ahead k began))
    c.requires.mark c.print_from.ensures.all c.print_from.ensures.receipt
