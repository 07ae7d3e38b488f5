use Rattle.std.proofs.Common.{Ok, Err, ap, subst, ◌∙◌}
use Rattle.tp_run.proofs.Lower.{ReceiptValue, shown_upto_of, RefusesFor, ConfirmFault}
use Rattle.tp_run.specs.declared.fault.RunFault.TheVariants.{Memory}
use Rattle.tp_run.specs.Output.{unconfirmed_fault}
use Rattle.tp_run.proofs.Reasons.{shown_refused, told_confirm}
use Rattle.tp_run.proofs.printing.confirm_shown.Goals as goal

pub returns-in-Ok-clause-answer : goal.returns-in-Ok-clause-answer
returns-in-Ok-clause-answer g c =
    shown_refused ReceiptValue c.args.held.now.book c.args.port c.args.mark c.shown_upto-upto.result (Ok c.in-Ok.receipt)
    (c.shown_upto-upto.ensures.value ∙ ap (λ d. shown_upto_of d c.args.port c.args.mark) c.book.ensures) c.in-Ok.ensures.answer

pub returns-in-Err-JournalFull-clause-answer : goal.returns-in-Err-JournalFull-clause-answer
returns-in-Err-JournalFull-clause-answer g c =
    let b = c.args.held.now.book in
    subst (λ (fault : ConfirmFault). RefusesFor Memory (unconfirmed_fault b c.args.port c.args.mark) (told_confirm ReceiptValue (Err fault))) c.in-Err-JournalFull.field-0-is
    (shown_refused ReceiptValue b c.args.port c.args.mark c.shown_upto-upto.result (Err c.in-Err-JournalFull.field-0)
    (c.shown_upto-upto.ensures.value ∙ ap (λ d. shown_upto_of d c.args.port c.args.mark) c.book.ensures) c.in-Err-JournalFull.ensures.answer)

pub returns-in-Err-Memory-clause-answer : goal.returns-in-Err-Memory-clause-answer
returns-in-Err-Memory-clause-answer g c =
    let b = c.args.held.now.book in
    subst (λ (fault : ConfirmFault). RefusesFor Memory (unconfirmed_fault b c.args.port c.args.mark) (told_confirm ReceiptValue (Err fault))) c.in-Err-Memory.field-0-is
    (shown_refused ReceiptValue b c.args.port c.args.mark c.shown_upto-upto.result (Err c.in-Err-Memory.field-0)
    (c.shown_upto-upto.ensures.value ∙ ap (λ d. shown_upto_of d c.args.port c.args.mark) c.book.ensures) c.in-Err-Memory.ensures.answer)

pub returns-in-Err-StoreBroken-clause-answer : goal.returns-in-Err-StoreBroken-clause-answer
returns-in-Err-StoreBroken-clause-answer g c =
    let b = c.args.held.now.book in
    subst (λ (fault : ConfirmFault). RefusesFor Memory (unconfirmed_fault b c.args.port c.args.mark) (told_confirm ReceiptValue (Err fault))) c.in-Err-StoreBroken.field-0-is
    (shown_refused ReceiptValue b c.args.port c.args.mark c.shown_upto-upto.result (Err c.in-Err-StoreBroken.field-0)
    (c.shown_upto-upto.ensures.value ∙ ap (λ d. shown_upto_of d c.args.port c.args.mark) c.book.ensures) c.in-Err-StoreBroken.ensures.answer)
