use Rattle.std.proofs.Common.{Some, sym, ap, ◌∙◌}
use Rattle.tp_tests_threads.proofs.Lower.{BookValue, next_in_book, opened_book, unrisen, kept_is, stands}
use Rattle.tp_tests_threads.proofs.opening.parts_of.Goals as goal

pub returns-clause-parts : goal.returns-clause-parts
returns-clause-parts c =
    let s = c.in_ok-state.state in
    let o = c.args.opened in
    let room = Some c.journal_room-room.result in
    let E = c.in_ok-state.ensures in
    let P = c.in_ok-parts.ensures in
    stands s o room c.in_ok-parts.parts c.in_ok-mark.raiser E.now E.base E.form E.next E.kept c.known.ensures.cut c.known.ensures.leads
    (c.opened_books_begin.ensures.runs s room o E.opened E.cut (kept_is s o E.kept) E.now) (P.book ∙ c.in_ok-book.ensures) (P.roll.0 ∙ ap next_in_book c.in_ok-book.ensures)
    (c.in_ok-mark.ensures.raiser ∙ ap (λ m. record { mark = m; at = s.next; rises = unrisen s.next }) (sym P.mark))

pub returns-clause-bound : goal.returns-clause-bound
returns-clause-bound c = ap (λ (b : BookValue). b.room) (c.in_ok-parts.ensures.book ∙ c.in_ok-book.ensures) ∙ ap Some c.journal_room-room.ensures

pub opened-requires-clause-opened : goal.opened-requires-clause-opened
opened-requires-clause-opened c = record {
  state = c.in_ok-state.state;
  opened = c.in_ok-state.ensures.opened;
  book_is = c.in_ok-book.ensures ∙ ap (opened_book c.in_ok-state.state) (sym (ap (λ (b : BookValue). b.room) c.in_ok-book.ensures));
  nodes_are = c.in_ok-nodes.ensures.live;
}
