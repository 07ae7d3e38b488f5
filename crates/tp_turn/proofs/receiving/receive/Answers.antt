use Rattle.std.proofs.Common.{sym, subst, arith}
use Rattle.tp_turn.proofs.Lower.{slice_get_within, received, agreed, length-agreed}
use Rattle.tp_turn.specs.Receiving.{Answered, HasPlace, ReceivesOf, offered_on}
use Rattle.tp_turn.proofs.Ahead.{receives, ahead}
use Rattle.tp_turn.proofs.Placing.{placed_next, placed_offered}
use Rattle.tp_turn.proofs.receiving.receive.Goals as goal

pub take_each-requires-clause-place : goal.take_each-requires-clause-place
take_each-requires-clause-place c =
    let below = slice_get_within (agreed c.args.book.now.state) c.args.number c.args.node.now.live c.requires.is.there in
    subst (λ tokens. HasPlace 0 tokens c.args.node.now.live) (sym c.offered_on.ensures)
    (placed_offered c.args.book.now c.known.ensures.keeps c.args.all c.args.number 0 c.args.node.now.live below (omega arith) c.requires.is.there)

pub offered_on-requires-2-clause-number : goal.offered_on-requires-2-clause-number
offered_on-requires-2-clause-number c =
    let below = slice_get_within (agreed c.args.book.now.state) c.args.number c.args.node.now.live c.requires.is.there in
    omega (arith, below, c.known.ensures.shaped.count, length-agreed c.args.book.now.state c.known.ensures.keeps)

pub take_each-requires-2-clause-place : goal.take_each-requires-2-clause-place
take_each-requires-2-clause-place c =
    let below = slice_get_within (agreed c.args.book.now.state) c.args.number c.args.node.now.live c.requires.is.there in
    subst (λ tokens. HasPlace 1 tokens c.take_each.new.node.live) (sym c.offered_on-2.ensures)
    (placed_next 0 1 (received c.offered_on.result) (offered_on c.args.book.now c.args.all c.args.number 1) c.take_each.result c.args.node.now c.take_each.new.node c.new-sent.result.items c.take_each.new.sent.items (λ same. omega (arith, same)) c.take_each.ensures.did
    (placed_offered c.args.book.now c.known.ensures.keeps c.args.all c.args.number 1 c.args.node.now.live below (omega arith) c.requires.is.there))

pub offered_on-requires-3-clause-number : goal.offered_on-requires-3-clause-number
offered_on-requires-3-clause-number c =
    let below = slice_get_within (agreed c.args.book.now.state) c.args.number c.args.node.now.live c.requires.is.there in
    omega (arith, below, c.known.ensures.shaped.count, length-agreed c.args.book.now.state c.known.ensures.keeps)

pub take_each-requires-3-clause-place : goal.take_each-requires-3-clause-place
take_each-requires-3-clause-place c =
    let below = slice_get_within (agreed c.args.book.now.state) c.args.number c.args.node.now.live c.requires.is.there in
    subst (λ tokens. HasPlace 2 tokens c.take_each-2.new.node.live) (sym c.offered_on-3.ensures)
    (placed_next 1 2 (received c.offered_on-2.result) (offered_on c.args.book.now c.args.all c.args.number 2) c.take_each-2.result c.take_each.new.node c.take_each-2.new.node c.take_each.new.sent.items c.take_each-2.new.sent.items (λ same. omega (arith, same)) c.take_each-2.ensures.did
    (placed_next 0 2 (received c.offered_on.result) (offered_on c.args.book.now c.args.all c.args.number 2) c.take_each.result c.args.node.now c.take_each.new.node c.new-sent.result.items c.take_each.new.sent.items (λ same. omega (arith, same)) c.take_each.ensures.did
    (placed_offered c.args.book.now c.known.ensures.keeps c.args.all c.args.number 2 c.args.node.now.live below (omega arith) c.requires.is.there)))

pub offered_on-requires-4-clause-number : goal.offered_on-requires-4-clause-number
offered_on-requires-4-clause-number c =
    let below = slice_get_within (agreed c.args.book.now.state) c.args.number c.args.node.now.live c.requires.is.there in
    omega (arith, below, c.known.ensures.shaped.count, length-agreed c.args.book.now.state c.known.ensures.keeps)

pub take_each-requires-4-clause-place : goal.take_each-requires-4-clause-place
take_each-requires-4-clause-place c =
    let below = slice_get_within (agreed c.args.book.now.state) c.args.number c.args.node.now.live c.requires.is.there in
    subst (λ tokens. HasPlace 3 tokens c.take_each-3.new.node.live) (sym c.offered_on-4.ensures)
    (placed_next 2 3 (received c.offered_on-3.result) (offered_on c.args.book.now c.args.all c.args.number 3) c.take_each-3.result c.take_each-2.new.node c.take_each-3.new.node c.take_each-2.new.sent.items c.take_each-3.new.sent.items (λ same. omega (arith, same)) c.take_each-3.ensures.did
    (placed_next 1 3 (received c.offered_on-2.result) (offered_on c.args.book.now c.args.all c.args.number 3) c.take_each-2.result c.take_each.new.node c.take_each-2.new.node c.take_each.new.sent.items c.take_each-2.new.sent.items (λ same. omega (arith, same)) c.take_each-2.ensures.did
    (placed_next 0 3 (received c.offered_on.result) (offered_on c.args.book.now c.args.all c.args.number 3) c.take_each.result c.args.node.now c.take_each.new.node c.new-sent.result.items c.take_each.new.sent.items (λ same. omega (arith, same)) c.take_each.ensures.did
    (placed_offered c.args.book.now c.known.ensures.keeps c.args.all c.args.number 3 c.args.node.now.live below (omega arith) c.requires.is.there))))

pub returns-clause-did : goal.returns-clause-did
returns-clause-did c =
    receives c.args.book.now c.args.all c.args.number c.take_each.result c.take_each-2.result c.take_each-3.result c.take_each-4.result
    c.args.node.now c.take_each.new.node c.take_each-2.new.node c.take_each-3.new.node c.take_each-4.new.node
    c.new-sent.result.items c.take_each.new.sent.items c.take_each-2.new.sent.items c.take_each-3.new.sent.items c.take_each-4.new.sent.items c.new-sent.ensures
    (subst (λ tokens. Answered (ReceivesOf 0 tokens c.take_each.result) c.args.node.now c.new-sent.result.items c.take_each.new.node c.take_each.new.sent.items) c.offered_on.ensures c.take_each.ensures.did)
    (subst (λ tokens. Answered (ReceivesOf 1 tokens c.take_each-2.result) c.take_each.new.node c.take_each.new.sent.items c.take_each-2.new.node c.take_each-2.new.sent.items) c.offered_on-2.ensures c.take_each-2.ensures.did)
    (subst (λ tokens. Answered (ReceivesOf 2 tokens c.take_each-3.result) c.take_each-2.new.node c.take_each-2.new.sent.items c.take_each-3.new.node c.take_each-3.new.sent.items) c.offered_on-3.ensures c.take_each-3.ensures.did)
    (subst (λ tokens. Answered (ReceivesOf 3 tokens c.take_each-4.result) c.take_each-3.new.node c.take_each-3.new.sent.items c.take_each-4.new.node c.take_each-4.new.sent.items) c.offered_on-4.ensures c.take_each-4.ensures.did)

pub returns-clause-ahead : goal.returns-clause-ahead
returns-clause-ahead c =
    let below = slice_get_within (agreed c.args.book.now.state) c.args.number c.args.node.now.live c.requires.is.there in
    ahead c.args.book.now c.known.ensures.keeps c.args.all c.args.number below c.take_each.result c.take_each-2.result c.take_each-3.result c.take_each-4.result
    c.args.node.now c.take_each.new.node c.take_each-2.new.node c.take_each-3.new.node c.take_each-4.new.node
    c.new-sent.result.items c.take_each.new.sent.items c.take_each-2.new.sent.items c.take_each-3.new.sent.items c.take_each-4.new.sent.items c.new-sent.ensures
    (subst (λ tokens. Answered (ReceivesOf 0 tokens c.take_each.result) c.args.node.now c.new-sent.result.items c.take_each.new.node c.take_each.new.sent.items) c.offered_on.ensures c.take_each.ensures.did)
    (subst (λ tokens. Answered (ReceivesOf 1 tokens c.take_each-2.result) c.take_each.new.node c.take_each.new.sent.items c.take_each-2.new.node c.take_each-2.new.sent.items) c.offered_on-2.ensures c.take_each-2.ensures.did)
    (subst (λ tokens. Answered (ReceivesOf 2 tokens c.take_each-3.result) c.take_each-2.new.node c.take_each-2.new.sent.items c.take_each-3.new.node c.take_each-3.new.sent.items) c.offered_on-3.ensures c.take_each-3.ensures.did)
    (subst (λ tokens. Answered (ReceivesOf 3 tokens c.take_each-4.result) c.take_each-3.new.node c.take_each-3.new.sent.items c.take_each-4.new.node c.take_each-4.new.sent.items) c.offered_on-4.ensures c.take_each-4.ensures.did)
    c.requires.is c.take_each-4.ensures.image
