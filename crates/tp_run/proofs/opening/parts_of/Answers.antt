use Rattle.std.proofs.Common.{Some, sym, ap, subst, ◌<◌, length, ◌∙◌}
use Rattle.tp_run.proofs.Lower.{BookValue, next_in_book, kept_is, ports_are, stands}
use Rattle.tp_run.specs.Outset.{outset_of}
use Rattle.tp_run.proofs.Made.{outset_is}
use Rattle.tp_run.proofs.opening.parts_of.Goals as goal

pub returns-clause-parts : goal.returns-clause-parts
returns-clause-parts c =
    let s = c.in_ok-state.state in
    let o = c.args.opened in
    let room = Some c.journal_room-room.result in
    let E = c.in_ok-state.ensures in
    let P = c.in_ok-parts.ensures in
    stands s o room c.in_ok-parts.parts c.in_ok-parts.raiser E.now E.base E.form E.next E.kept c.known.ensures.cut c.known.ensures.leads
    (c.opened_books_begin.ensures.runs s room o E.opened E.cut (kept_is s o E.kept) E.now) (P.book ∙ c.in_ok-book.ensures) (P.first ∙ ap next_in_book c.in_ok-book.ensures) P.raiser

pub returns-clause-bound : goal.returns-clause-bound
returns-clause-bound c = ap (λ (b : BookValue). b.room) (c.in_ok-parts.ensures.book ∙ c.in_ok-book.ensures) ∙ ap Some c.journal_room-room.ensures

pub of-outset-requires : goal.of-outset-requires
of-outset-requires c =
    let s = c.in_ok-state.state in
    let E = c.in_ok-state.ensures in
    subst (λ n. c.args.port < n) (sym (ap (λ (b : BookValue). length b.state.ports) c.in_ok-book.ensures ∙ ports_are s c.args.opened E.now c.known.ensures.cut c.known.ensures.leads)) c.requires

pub returns-clause-outset : goal.returns-clause-outset
returns-clause-outset c =
    let s = c.in_ok-state.state in
    let E = c.in_ok-state.ensures in
    c.of-outset.ensures ∙ ap (λ b. outset_of b c.args.port) c.in_ok-book.ensures ∙ outset_is s c.args.opened (Some c.journal_room-room.result) c.args.port E.now E.base E.kept
