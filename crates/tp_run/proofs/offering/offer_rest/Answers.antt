use Rattle.std.proofs.Common.{Ok, Err, length, ap, subst, ◌∙◌}
use Rattle.tp_run.proofs.Lower.{ReceiptValue, accepted_of, port_in, room_of, RefusesFor, OfferFault}
use Rattle.tp_run.specs.declared.fault.RunFault.TheVariants.{Memory}
use Rattle.tp_run.specs.Input.{rest_fault, input_rest}
use Rattle.tp_run.proofs.Reasons.{rest_refused, told_rest}
use Rattle.tp_run.proofs.offering.offer_rest.Goals as goal

pub returns-in-Ok-clause-answer : goal.returns-in-Ok-clause-answer
returns-in-Ok-clause-answer g c =
    let port = c.args.port in
    rest_refused ReceiptValue c.args.held.now.book port c.accepted-accepted.result c.room-room.result c.args.input.now c.front_from-bytes.result.now (Ok c.in-Ok.receipt)
    (c.accepted-accepted.ensures ∙ ap (λ d. accepted_of (port_in d port)) c.book.ensures) (c.room-room.ensures ∙ ap (λ d. room_of (port_in d port)) c.book-2.ensures)
    c.front_from-bytes.ensures c.in-Ok.ensures.answer

pub returns-in-Err-JournalFull-clause-answer : goal.returns-in-Err-JournalFull-clause-answer
returns-in-Err-JournalFull-clause-answer g c =
    let b = c.args.held.now.book in
    let port = c.args.port in
    subst (λ (fault : OfferFault). RefusesFor Memory (rest_fault b (length (input_rest b port c.args.input.now))) (told_rest ReceiptValue (Err fault))) c.in-Err-JournalFull.field-0-is
    (rest_refused ReceiptValue b port c.accepted-accepted.result c.room-room.result c.args.input.now c.front_from-bytes.result.now (Err c.in-Err-JournalFull.field-0)
    (c.accepted-accepted.ensures ∙ ap (λ d. accepted_of (port_in d port)) c.book.ensures) (c.room-room.ensures ∙ ap (λ d. room_of (port_in d port)) c.book-2.ensures)
    c.front_from-bytes.ensures c.in-Err-JournalFull.ensures.answer)

pub returns-in-Err-Memory-clause-answer : goal.returns-in-Err-Memory-clause-answer
returns-in-Err-Memory-clause-answer g c =
    let b = c.args.held.now.book in
    let port = c.args.port in
    subst (λ (fault : OfferFault). RefusesFor Memory (rest_fault b (length (input_rest b port c.args.input.now))) (told_rest ReceiptValue (Err fault))) c.in-Err-Memory.field-0-is
    (rest_refused ReceiptValue b port c.accepted-accepted.result c.room-room.result c.args.input.now c.front_from-bytes.result.now (Err c.in-Err-Memory.field-0)
    (c.accepted-accepted.ensures ∙ ap (λ d. accepted_of (port_in d port)) c.book.ensures) (c.room-room.ensures ∙ ap (λ d. room_of (port_in d port)) c.book-2.ensures)
    c.front_from-bytes.ensures c.in-Err-Memory.ensures.answer)

pub returns-in-Err-StoreBroken-clause-answer : goal.returns-in-Err-StoreBroken-clause-answer
returns-in-Err-StoreBroken-clause-answer g c =
    let b = c.args.held.now.book in
    let port = c.args.port in
    subst (λ (fault : OfferFault). RefusesFor Memory (rest_fault b (length (input_rest b port c.args.input.now))) (told_rest ReceiptValue (Err fault))) c.in-Err-StoreBroken.field-0-is
    (rest_refused ReceiptValue b port c.accepted-accepted.result c.room-room.result c.args.input.now c.front_from-bytes.result.now (Err c.in-Err-StoreBroken.field-0)
    (c.accepted-accepted.ensures ∙ ap (λ d. accepted_of (port_in d port)) c.book.ensures) (c.room-room.ensures ∙ ap (λ d. room_of (port_in d port)) c.book-2.ensures)
    c.front_from-bytes.ensures c.in-Err-StoreBroken.ensures.answer)
