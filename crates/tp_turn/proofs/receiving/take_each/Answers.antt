use Rattle.std.proofs.Common.{[], ◌∷◌, refl, sym, subst}
use Rattle.tp_turn.proofs.Lower.{Data, Ack, Nothing, JustData, JustAck, DataThenAck, AckThenData, received}
use Rattle.tp_turn.specs.Receiving.{Answered, HasPlace, ReceivesOf}
use Rattle.tp_turn.proofs.Answering.{each_none, each_one, each_two, of_all, of_front}
use Rattle.tp_turn.proofs.Placing.{placed_taken, placed_behind}
use Rattle.tp_turn.proofs.receiving.take_each.Goals as goal

pub take_one-requires-clause-possible : goal.take_one-requires-clause-possible
take_one-requires-clause-possible c = placed_taken c.args.link (Data c.in-JustData.byte) [] c.args.node.now.live c.requires.image.image c.requires.link refl (subst (λ one. HasPlace c.args.link (received one) c.args.node.now.live) c.in-JustData.is c.requires.place)

pub take_one-requires-in-JustAck-clause-possible : goal.take_one-requires-in-JustAck-clause-possible
take_one-requires-in-JustAck-clause-possible c = placed_taken c.args.link Ack [] c.args.node.now.live c.requires.image.image c.requires.link refl (subst (λ one. HasPlace c.args.link (received one) c.args.node.now.live) c.in-JustAck.is c.requires.place)

pub take_one-requires-in-DataThenAck-clause-possible : goal.take_one-requires-in-DataThenAck-clause-possible
take_one-requires-in-DataThenAck-clause-possible c = placed_taken c.args.link (Data c.in-DataThenAck.byte) (Ack ∷ []) c.args.node.now.live c.requires.image.image c.requires.link refl (subst (λ one. HasPlace c.args.link (received one) c.args.node.now.live) c.in-DataThenAck.is c.requires.place)

pub take_one-requires-in-AckThenData-clause-possible : goal.take_one-requires-in-AckThenData-clause-possible
take_one-requires-in-AckThenData-clause-possible c = placed_taken c.args.link Ack (Data c.in-AckThenData.byte ∷ []) c.args.node.now.live c.requires.image.image c.requires.link refl (subst (λ one. HasPlace c.args.link (received one) c.args.node.now.live) c.in-AckThenData.is c.requires.place)

pub take_one-requires-else-not-take_one-clause-possible : goal.take_one-requires-else-not-take_one-clause-possible
take_one-requires-else-not-take_one-clause-possible c =
    let D = c.if-not-take_one.ensures.did in
    placed_taken c.args.link Ack [] c.take_one-in-DataThenAck.new.node.live c.if-not-take_one.ensures.image.image c.requires.link refl
    (placed_behind c.args.link (Data c.in-DataThenAck.byte) (Ack ∷ []) c.args.node.now.live (c.take_one-in-DataThenAck.new.node.live, D.answers) D.did.took (subst (λ one. HasPlace c.args.link (received one) c.args.node.now.live) c.in-DataThenAck.is c.requires.place))

pub take_one-requires-else-not-take_one-3-clause-possible : goal.take_one-requires-else-not-take_one-3-clause-possible
take_one-requires-else-not-take_one-3-clause-possible c =
    let D = c.if-not-take_one-3.ensures.did in
    placed_taken c.args.link (Data c.in-AckThenData.byte) [] c.take_one-in-AckThenData.new.node.live c.if-not-take_one-3.ensures.image.image c.requires.link refl
    (placed_behind c.args.link Ack ((Data c.in-AckThenData.byte) ∷ []) c.args.node.now.live (c.take_one-in-AckThenData.new.node.live, D.answers) D.did.took (subst (λ one. HasPlace c.args.link (received one) c.args.node.now.live) c.in-AckThenData.is c.requires.place))

pub returns-in-Nothing-clause-did : goal.returns-in-Nothing-clause-did
returns-in-Nothing-clause-did c =
    subst (λ one. Answered (ReceivesOf c.args.link (received one) Nothing) c.args.node.now c.args.sent.now.items c.args.node.now c.args.sent.now.items) (sym c.in-Nothing.is)
    (of_all c.args.link Nothing c.args.node.now c.args.node.now c.args.sent.now.items c.args.sent.now.items (each_none c.args.link c.args.node.now c.args.sent.now.items))

pub returns-then-take_one-clause-did : goal.returns-then-take_one-clause-did
returns-then-take_one-clause-did c =
    subst (λ one. Answered (ReceivesOf c.args.link (received one) (JustData c.in-JustData.byte)) c.args.node.now c.args.sent.now.items c.take_one.new.node c.take_one.new.sent.items) (sym c.in-JustData.is)
    (of_all c.args.link (JustData c.in-JustData.byte) c.args.node.now c.take_one.new.node c.args.sent.now.items c.take_one.new.sent.items (each_one c.args.link (Data c.in-JustData.byte) c.args.node.now c.take_one.new.node c.args.sent.now.items c.take_one.new.sent.items c.if-take_one.ensures.did))

pub returns-else-take_one-clause-did : goal.returns-else-take_one-clause-did
returns-else-take_one-clause-did c =
    subst (λ one. Answered (ReceivesOf c.args.link (received one) Nothing) c.args.node.now c.args.sent.now.items c.take_one.new.node c.take_one.new.sent.items) (sym c.in-JustData.is)
    (of_front c.args.link Nothing (Data c.in-JustData.byte) [] c.args.node.now c.args.node.now c.take_one.new.node c.args.sent.now.items c.args.sent.now.items c.take_one.new.sent.items (each_none c.args.link c.args.node.now c.args.sent.now.items) c.if-take_one.ensures.did)

pub returns-then-take_one-2-clause-did : goal.returns-then-take_one-2-clause-did
returns-then-take_one-2-clause-did c =
    subst (λ one. Answered (ReceivesOf c.args.link (received one) one) c.args.node.now c.args.sent.now.items c.take_one-in-JustAck.new.node c.take_one-in-JustAck.new.sent.items) (sym c.in-JustAck.is)
    (of_all c.args.link JustAck c.args.node.now c.take_one-in-JustAck.new.node c.args.sent.now.items c.take_one-in-JustAck.new.sent.items (each_one c.args.link Ack c.args.node.now c.take_one-in-JustAck.new.node c.args.sent.now.items c.take_one-in-JustAck.new.sent.items c.if-take_one-2.ensures.did))

pub returns-else-take_one-2-clause-did : goal.returns-else-take_one-2-clause-did
returns-else-take_one-2-clause-did c =
    subst (λ one. Answered (ReceivesOf c.args.link (received one) Nothing) c.args.node.now c.args.sent.now.items c.take_one-in-JustAck.new.node c.take_one-in-JustAck.new.sent.items) (sym c.in-JustAck.is)
    (of_front c.args.link Nothing Ack [] c.args.node.now c.args.node.now c.take_one-in-JustAck.new.node c.args.sent.now.items c.args.sent.now.items c.take_one-in-JustAck.new.sent.items (each_none c.args.link c.args.node.now c.args.sent.now.items) c.if-take_one-2.ensures.did)

pub returns-then-not-take_one-clause-did : goal.returns-then-not-take_one-clause-did
returns-then-not-take_one-clause-did c =
    subst (λ one. Answered (ReceivesOf c.args.link (received one) Nothing) c.args.node.now c.args.sent.now.items c.take_one-in-DataThenAck.new.node c.take_one-in-DataThenAck.new.sent.items) (sym c.in-DataThenAck.is)
    (of_front c.args.link Nothing (Data c.in-DataThenAck.byte) (Ack ∷ []) c.args.node.now c.args.node.now c.take_one-in-DataThenAck.new.node c.args.sent.now.items c.args.sent.now.items c.take_one-in-DataThenAck.new.sent.items (each_none c.args.link c.args.node.now c.args.sent.now.items) c.if-not-take_one.ensures.did)

pub returns-then-not-take_one-2-clause-did : goal.returns-then-not-take_one-2-clause-did
returns-then-not-take_one-2-clause-did c =
    subst (λ one. Answered (ReceivesOf c.args.link (received one) (JustData c.in-DataThenAck.byte)) c.args.node.now c.args.sent.now.items c.take_one-else-not-take_one.new.node c.take_one-else-not-take_one.new.sent.items) (sym c.in-DataThenAck.is)
    (of_front c.args.link (JustData c.in-DataThenAck.byte) Ack [] c.args.node.now c.take_one-in-DataThenAck.new.node c.take_one-else-not-take_one.new.node c.args.sent.now.items c.take_one-in-DataThenAck.new.sent.items c.take_one-else-not-take_one.new.sent.items (each_one c.args.link (Data c.in-DataThenAck.byte) c.args.node.now c.take_one-in-DataThenAck.new.node c.args.sent.now.items c.take_one-in-DataThenAck.new.sent.items c.if-not-take_one.ensures.did) c.if-not-take_one-2.ensures.did)

pub returns-else-not-take_one-2-clause-did : goal.returns-else-not-take_one-2-clause-did
returns-else-not-take_one-2-clause-did c =
    subst (λ one. Answered (ReceivesOf c.args.link (received one) (DataThenAck c.in-DataThenAck.byte)) c.args.node.now c.args.sent.now.items c.take_one-else-not-take_one.new.node c.take_one-else-not-take_one.new.sent.items) (sym c.in-DataThenAck.is)
    (of_all c.args.link (DataThenAck c.in-DataThenAck.byte) c.args.node.now c.take_one-else-not-take_one.new.node c.args.sent.now.items c.take_one-else-not-take_one.new.sent.items (each_two c.args.link (Data c.in-DataThenAck.byte) Ack c.args.node.now c.take_one-in-DataThenAck.new.node c.take_one-else-not-take_one.new.node c.args.sent.now.items c.take_one-in-DataThenAck.new.sent.items c.take_one-else-not-take_one.new.sent.items c.if-not-take_one.ensures.did c.if-not-take_one-2.ensures.did))

pub returns-then-not-take_one-3-clause-did : goal.returns-then-not-take_one-3-clause-did
returns-then-not-take_one-3-clause-did c =
    subst (λ one. Answered (ReceivesOf c.args.link (received one) Nothing) c.args.node.now c.args.sent.now.items c.take_one-in-AckThenData.new.node c.take_one-in-AckThenData.new.sent.items) (sym c.in-AckThenData.is)
    (of_front c.args.link Nothing Ack ((Data c.in-AckThenData.byte) ∷ []) c.args.node.now c.args.node.now c.take_one-in-AckThenData.new.node c.args.sent.now.items c.args.sent.now.items c.take_one-in-AckThenData.new.sent.items (each_none c.args.link c.args.node.now c.args.sent.now.items) c.if-not-take_one-3.ensures.did)

pub returns-then-not-take_one-4-clause-did : goal.returns-then-not-take_one-4-clause-did
returns-then-not-take_one-4-clause-did c =
    subst (λ one. Answered (ReceivesOf c.args.link (received one) JustAck) c.args.node.now c.args.sent.now.items c.take_one-else-not-take_one-3.new.node c.take_one-else-not-take_one-3.new.sent.items) (sym c.in-AckThenData.is)
    (of_front c.args.link JustAck (Data c.in-AckThenData.byte) [] c.args.node.now c.take_one-in-AckThenData.new.node c.take_one-else-not-take_one-3.new.node c.args.sent.now.items c.take_one-in-AckThenData.new.sent.items c.take_one-else-not-take_one-3.new.sent.items (each_one c.args.link Ack c.args.node.now c.take_one-in-AckThenData.new.node c.args.sent.now.items c.take_one-in-AckThenData.new.sent.items c.if-not-take_one-3.ensures.did) c.if-not-take_one-4.ensures.did)

pub returns-else-not-take_one-4-clause-did : goal.returns-else-not-take_one-4-clause-did
returns-else-not-take_one-4-clause-did c =
    subst (λ one. Answered (ReceivesOf c.args.link (received one) (AckThenData c.in-AckThenData.byte)) c.args.node.now c.args.sent.now.items c.take_one-else-not-take_one-3.new.node c.take_one-else-not-take_one-3.new.sent.items) (sym c.in-AckThenData.is)
    (of_all c.args.link (AckThenData c.in-AckThenData.byte) c.args.node.now c.take_one-else-not-take_one-3.new.node c.args.sent.now.items c.take_one-else-not-take_one-3.new.sent.items (each_two c.args.link Ack (Data c.in-AckThenData.byte) c.args.node.now c.take_one-in-AckThenData.new.node c.take_one-else-not-take_one-3.new.node c.args.sent.now.items c.take_one-in-AckThenData.new.sent.items c.take_one-else-not-take_one-3.new.sent.items c.if-not-take_one-3.ensures.did c.if-not-take_one-4.ensures.did))
