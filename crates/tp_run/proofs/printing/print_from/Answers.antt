use Rattle.std.proofs.Common.{rules, ◌≡◌, ◌≤◌, length, inl, Err, refl, sym, ap, subst, ◌∙◌}
use Rattle.std.specs.Prelude.{IfOk}
use Rattle.tp_run.proofs.Lower.{next_in_book, port_in, shown_of}
use Rattle.tp_run.specs.Output.{AreOutputs, IsForOutput, ShowsAll}
use Rattle.tp_run.specs.Prints.{ComesSilent, MayBeSilent}
use Rattle.tp_run.proofs.Shown.{are_outputs, if_made, may_take_all, output_like, printed_of}
use Rattle.tp_run.proofs.printing.print_from.Goals as goal

pub print_shown-requires-clause-shown : goal.print_shown-requires-clause-shown
print_shown-requires-clause-shown g c =
    let b = c.args.held.now.book in
    let port = c.args.outset.port in
    may_take_all g.J.Naming.formatted g.J.Naming.before c.args.flusher.now b port c.args.mark c.args.outset.confirmed c.requires.ahead c.requires.mark (record {
      base = ap (λ d. (port_in d port).out_base) (sym c.book.ensures) ∙ c.in_ok-is_confirmed_in.ensures.confirmed;
      all = subst (λ d. shown_of d port c.args.mark ≡ length (port_in d port).outputs) c.book-2.ensures c.in_ok-is_all_shown.ensures.all;
      stored = subst (λ d. next_in_book d ≤ c.args.mark) c.book-2.ensures c.in_ok-is_all_shown.ensures.stored;
    })

pub returns-clause-receipt : goal.returns-clause-receipt
returns-clause-receipt g c =
    let b = c.args.held.now.book in
    let port = c.args.outset.port in
    let was = (g.O.Outlet.value c.args.out.now).taken in
    let now = (g.O.Outlet.value c.print_shown.new.out).taken in
    let base : (port_in b port).out_base ≡ c.args.outset.confirmed = ap (λ d. (port_in d port).out_base) (sym c.book.ensures) ∙ c.in_ok-is_confirmed_in.ensures.confirmed in
    let all = subst (λ d. shown_of d port c.args.mark ≡ length (port_in d port).outputs) c.book-2.ensures c.in_ok-is_all_shown.ensures.all in
    let held = c.args.seat.now in
    let host = c.print_shown.new.seat in
    let had = c.args.key.now in
    let has = c.print_shown.new.key in
    subst (λ from. IfOk c.print_shown.result (IsForOutput port from (AreOutputs b port) was now held host had has)) base
    (output_like port (port_in b port).out_base _ (AreOutputs b port) was now held host had has c.print_shown.result (are_outputs b port c.args.mark all) c.print_shown.ensures.receipt)

pub returns-clause-all : goal.returns-clause-all
returns-clause-all g c =
    let b = c.args.held.now.book in
    let port = c.args.outset.port in
    if_made c.print_shown.result (ShowsAll b port c.args.mark c.args.outset.confirmed) (record {
      base = ap (λ d. (port_in d port).out_base) (sym c.book.ensures) ∙ c.in_ok-is_confirmed_in.ensures.confirmed;
      all = subst (λ d. shown_of d port c.args.mark ≡ length (port_in d port).outputs) c.book-2.ensures c.in_ok-is_all_shown.ensures.all;
      stored = subst (λ d. next_in_book d ≤ c.args.mark) c.book-2.ensures c.in_ok-is_all_shown.ensures.stored;
    })

pub returns-in_err-is_confirmed_in-clause-printed : goal.returns-in_err-is_confirmed_in-clause-printed
returns-in_err-is_confirmed_in-clause-printed g c =
    let fault = c.in_err-is_confirmed_in.field-0.0 in
    let is : c.from_residual.result ≡ Err fault = search rules in
    inl (refl, subst (λ r. MayBeSilent r) (sym is) (subst ComesSilent (sym c.in_err-is_confirmed_in.ensures.refused) tt))

pub returns-in_err-is_all_shown-clause-printed : goal.returns-in_err-is_all_shown-clause-printed
returns-in_err-is_all_shown-clause-printed g c =
    let fault = c.in_err-is_all_shown.field-0.0 in
    let is : c.from_residual-in_err-is_all_shown.result ≡ Err fault = search rules in
    inl (refl, subst (λ r. MayBeSilent r) (sym is) (subst ComesSilent (sym c.in_err-is_all_shown.ensures.refused) tt))

pub returns-clause-printed : goal.returns-clause-printed
returns-clause-printed g c =
    let b = c.args.held.now.book in
    let port = c.args.outset.port in
    printed_of b port c.args.mark c.args.outset.confirmed c.args.flusher.now.state (g.O.Outlet.value c.args.out.now) (g.O.Outlet.value c.print_shown.new.out) c.print_shown.result
    (ap (λ d. (port_in d port).out_base) (sym c.book.ensures) ∙ c.in_ok-is_confirmed_in.ensures.confirmed)
    (subst (λ d. shown_of d port c.args.mark ≡ length (port_in d port).outputs) c.book-2.ensures c.in_ok-is_all_shown.ensures.all)
    (subst (λ d. next_in_book d ≤ c.args.mark) c.book-2.ensures c.in_ok-is_all_shown.ensures.stored) c.print_shown.ensures.printed
