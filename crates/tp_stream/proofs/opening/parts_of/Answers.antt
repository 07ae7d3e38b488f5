use Rattle.std.proofs.Common.{◌≡◌, length, map, inr, Some, sym, ap, subst, ◌∙◌}
use Rattle.tp_stream.proofs.Lower.{AreCounted, BookValue, next_in_book, kept_is, stands, given_input, given_of}
use Rattle.tp_stream.specs.Standing.{AllHaveAccepted, AllMayBegin, accepted_at, accepted_opened, port_standing, stands_opened}
use Rattle.tp_stream.specs.Put.{EachWith}
use Rattle.tp_stream.specs.Steps.{IsSetOut}
use Rattle.tp_stream.proofs.Notices.{told_where}
use Rattle.tp_stream.proofs.Standings.{not_begun_as, opened_accepted, opened_stands}
use Rattle.tp_stream.proofs.opening.parts_of.Goals as goal

pub begin_all-requires : goal.begin_all-requires
begin_all-requires g c = subst (λ (b : BookValue). AreCounted c.in-Ok.state.next b.state.ports) (sym c.in-Ok-open.ensures) c.in-Ok.ensures.opened.counted

pub returns-in-Err-clause-refused : goal.returns-in-Err-clause-refused
returns-in-Err-clause-refused g c =
    let s = c.in-Ok.state in
    let o = c.args.opened in
    let fault = c.in-Err.fault in
    let gs = map given_of c.args.streams.now.outputs.items in
    let where_ : port_standing c.in-Ok-open.book s.next ≡ stands_opened o =
    ap (λ (b : BookValue). port_standing b s.next) c.in-Ok-open.ensures ∙ opened_stands s (Some c.journal_room-room.result) o s.next c.in-Ok.ensures.now in
    let many : length c.in-Ok-open.book.state.ports ≡ length o.now.ports = ap (λ (b : BookValue). length b.state.ports) c.in-Ok-open.ensures ∙ ap (λ net. length net.ports) c.in-Ok.ensures.now in
    let taken : accepted_at c.in-Ok-open.book ≡ accepted_opened o =
    ap accepted_at c.in-Ok-open.ensures ∙ opened_accepted s (Some c.journal_room-room.result) o c.in-Ok.ensures.now in
    inr (not_begun_as _ _ _ _ _ _ gs _ fault many where_ taken c.in-Err.ensures.refused)

pub returns-in-Ok-parts_with-clause-parts : goal.returns-in-Ok-parts_with-clause-parts
returns-in-Ok-parts_with-clause-parts g c =
    let s = c.in-Ok.state in
    let o = c.args.opened in
    let room = Some c.journal_room-room.result in
    let E = c.in-Ok.ensures in
    let P = c.in-Ok-parts_with.ensures in
    stands s o room c.in-Ok-parts_with.made.0 c.in-Ok-parts_with.made.1 E.now E.base E.form E.next E.kept c.known.ensures.cut c.known.ensures.leads
    (c.opened_books_begin.ensures.runs s room o E.opened E.cut (kept_is s o E.kept) E.now) (P.book ∙ c.in-Ok-open.ensures) (P.first ∙ ap next_in_book c.in-Ok-open.ensures) P.raiser

pub returns-in-Ok-parts_with-clause-begun : goal.returns-in-Ok-parts_with-clause-begun
returns-in-Ok-parts_with-clause-begun g c =
    let s = c.in-Ok.state in
    let o = c.args.opened in
    let gs = map given_of c.args.streams.now.outputs.items in
    subst (λ at. AllMayBegin at gs)
    (ap (λ (b : BookValue). port_standing b s.next) c.in-Ok-open.ensures ∙ opened_stands s (Some c.journal_room-room.result) o s.next c.in-Ok.ensures.now) c.in-Ok-begin_all.ensures.begun

pub returns-in-Ok-parts_with-clause-inputs : goal.returns-in-Ok-parts_with-clause-inputs
returns-in-Ok-parts_with-clause-inputs g c =
    let s = c.in-Ok.state in
    let o = c.args.opened in
    let is = map (λ i. given_input i.port (g.I.Source.input i.source)) c.args.streams.now.inputs.items in
    subst (λ at. AllHaveAccepted at is)
    (ap accepted_at c.in-Ok-open.ensures ∙ opened_accepted s (Some c.journal_room-room.result) o c.in-Ok.ensures.now) c.in-Ok-begin_all.ensures.inputs

pub returns-in-Ok-parts_with-clause-set : goal.returns-in-Ok-parts_with-clause-set
returns-in-Ok-parts_with-clause-set g c =
    let s = c.in-Ok.state in
    let o = c.args.opened in
    subst (λ at. EachWith (IsSetOut at) c.args.streams.now.outputs.items c.begin_all.new.streams.outputs.items)
    (ap (λ (b : BookValue). port_standing b s.next) c.in-Ok-open.ensures ∙ opened_stands s (Some c.journal_room-room.result) o s.next c.in-Ok.ensures.now) c.in-Ok-begin_all.ensures.set

pub returns-in-Ok-parts_with-clause-told : goal.returns-in-Ok-parts_with-clause-told
returns-in-Ok-parts_with-clause-told g c =
    let s = c.in-Ok.state in
    let o = c.args.opened in
    let gs = map given_of c.args.streams.now.outputs.items in
    let is = map (λ i. given_input i.port (g.I.Source.input i.source)) c.args.streams.now.inputs.items in
    let where_ : port_standing c.in-Ok-open.book s.next ≡ stands_opened o =
    ap (λ (b : BookValue). port_standing b s.next) c.in-Ok-open.ensures ∙ opened_stands s (Some c.journal_room-room.result) o s.next c.in-Ok.ensures.now in
    let taken : accepted_at c.in-Ok-open.book ≡ accepted_opened o =
    ap accepted_at c.in-Ok-open.ensures ∙ opened_accepted s (Some c.journal_room-room.result) o c.in-Ok.ensures.now in
    told_where (port_standing c.in-Ok-open.book s.next) (stands_opened o) (accepted_at c.in-Ok-open.book) (accepted_opened o) gs is _ _ where_ taken c.in-Ok-begin_all.ensures.told
