use Rattle.std.proofs.Common.{sym, ap, arith}
use Rattle.tp_shared.proofs.Opening.{opened_count, opened_free, opened_node}
use Rattle.tp_shared.proofs.parts.Parts.opened.Goals as goal

pub new-requires-clause-idle : goal.new-requires-clause-idle
new-requires-clause-idle c = ap (λ x. x.ready) c.requires.opened.book_is

pub new-requires-clause-opened : goal.new-requires-clause-opened
new-requires-clause-opened c = ap (λ x. x.history) c.requires.opened.book_is

pub new-requires-clause-count : goal.new-requires-clause-count
new-requires-clause-count c =
    let O = c.requires.opened in
    let runs = opened_count O.state c.args.book c.args.nodes.items O.opened O.book_is O.nodes_are in
    let count = c.known.ensures.shaped.count in
    (omega (arith, runs, count), sym count)

pub new-requires-clause-free : goal.new-requires-clause-free
new-requires-clause-free c =
    let O = c.requires.opened in
    opened_free O.state c.args.book c.args.nodes.items O.opened O.book_is O.nodes_are

pub new-requires-clause-agree : goal.new-requires-clause-agree
new-requires-clause-agree c i node at =
    let O = c.requires.opened in
    let each = c.requires.each i node at in
    opened_node O.state c.args.book c.args.nodes.items O.opened O.book_is O.nodes_are i node at each.0 each.1
