use Rattle.std.proofs.Common.{◌≡◌, Err, length, rules, sym, ap, subst, ◌∙◌}
use Rattle.tp_run.proofs.Lower.{marks_of, ReceiptValue, port_in, shown_from}
use Rattle.tp_run.specs.Prints.{PrintsAt}
use Rattle.tp_run.specs.Shown.{MayTake}
use Rattle.tp_run.proofs.Shown.{fault_of, fault_says, printed_is, prints_at, prints_on}
use Rattle.tp_run.proofs.printing.print_shown.Goals as goal

pub put-requires : goal.put-requires
put-requires g c =
    let b = c.args.held.now.book in
    let port = c.args.port in
    let shown : c.shown.result.now ≡ shown_from b port c.args.mark (port_in b port).out_base =
    c.shown.ensures.value ∙ ap (λ d. shown_from d port c.args.mark c.out_base-from.result) c.book-2.ensures
    ∙ ap (shown_from b port c.args.mark) (c.out_base-from.ensures ∙ ap (λ d. (port_in d port).out_base) c.book.ensures) in
    record { shown = subst (MayTake g.J.Naming.formatted g.J.Naming.before c.args.flusher.now) (sym shown) c.requires.shown }

-- the outputs that were to be printed
pub returns-in_err-put-clause-printed : goal.returns-in_err-put-clause-printed
returns-in_err-put-clause-printed g c =
    let b = c.args.held.now.book in
    let port = c.args.port in
    let shown : c.shown.result.now ≡ shown_from b port c.args.mark (port_in b port).out_base =
    c.shown.ensures.value ∙ ap (λ d. shown_from d port c.args.mark c.out_base-from.result) c.book-2.ensures
    ∙ ap (shown_from b port c.args.mark) (c.out_base-from.ensures ∙ ap (λ d. (port_in d port).out_base) c.book.ensures) in
    let fault = c.in_err-put.field-0.0 in
    let is : c.from_residual.result ≡ Err fault = search rules in
    let was = g.O.Outlet.value c.args.out.now in
    let now = g.O.Outlet.value c.put.new.out in
    subst (λ r. PrintsAt c.args.flusher.now.state r was now (shown_from b port c.args.mark (port_in b port).out_base)) (sym is)
    (prints_at c.args.flusher.now.state was now _ (fault_of (Unit {0}) fault) (fault_of ReceiptValue fault) (fault_says (Unit {0}) ReceiptValue fault)
    (subst (PrintsAt c.args.flusher.now.state (fault_of (Unit {0}) fault) was now) shown c.in_err-put.ensures.printed))

pub returns-clause-printed : goal.returns-clause-printed
returns-clause-printed g c =
    let b = c.args.held.now.book in
    let port = c.args.port in
    let shown : c.shown.result.now ≡ shown_from b port c.args.mark (port_in b port).out_base =
    c.shown.ensures.value ∙ ap (λ d. shown_from d port c.args.mark c.out_base-from.result) c.book-2.ensures
    ∙ ap (shown_from b port c.args.mark) (c.out_base-from.ensures ∙ ap (λ d. (port_in d port).out_base) c.book.ensures) in
    let was = g.O.Outlet.value c.args.out.now in
    let now = g.O.Outlet.value c.put.new.out in
    subst (PrintsAt c.args.flusher.now.state c.confirm_shown.result was now) shown
    (prints_on c.args.flusher.now.state was now c.shown.result.now c.confirm_shown.result c.in_ok-put.ensures.written c.confirm_shown.ensures.told c.in_ok-put.ensures.printed.called)

pub returns-clause-receipt : goal.returns-clause-receipt
returns-clause-receipt g c =
    let b = c.args.held.now.book in
    let port = c.args.port in
    let mark = c.args.mark in
    let from = (port_in b port).out_base in
    let each = subst (λ d. length (marks_of d port) ≡ length (port_in d port).outputs) c.book-2.ensures c.shown.ensures.exactly.each in
    let shown : c.shown.result.now ≡ shown_from b port mark from =
    c.shown.ensures.value ∙ ap (λ d. shown_from d port mark c.out_base-from.result) c.book-2.ensures
    ∙ ap (shown_from b port mark) (c.out_base-from.ensures ∙ ap (λ d. (port_in d port).out_base) c.book.ensures) in
    let E = c.confirm_shown.ensures in
    printed_is b c.confirm_shown.new.held.book port mark (g.O.Outlet.value c.args.out.now).taken (g.O.Outlet.value c.put.new.out).taken c.args.seat.now c.confirm_shown.new.seat c.args.key.now c.confirm_shown.new.key
    c.shown.result.now c.confirm_shown.result each shown c.in_ok-put.ensures.written E.book E.number E.receipt E.handed
