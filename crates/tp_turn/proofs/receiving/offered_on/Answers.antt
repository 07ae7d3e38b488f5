use Rattle.std.proofs.Common.{length, sym, ap, ◌∙◌, arith, Some}
use Rattle.tp_turn.proofs.Lower.{option_map, Link, line_of, agreed, length-agreed}
use Rattle.tp_turn.proofs.Possible.{comes_in, line_within}
use Rattle.tp_turn.proofs.receiving.offered_on.Goals as goal

pub offered-requires : goal.offered-requires
offered-requires c =
    let b = c.args.book.now.state in
    let K = c.known.ensures.keeps in
    let goes = comes_in b K c.args.number c.args.link c.line_of.result (omega (arith, c.requires.number, c.known.ensures.shaped.count, length-agreed b K)) c.requires.link
    (ap (option_map (line_of (length (agreed b)))) (sym c.receiver.ensures ∙ c.in-Some.is)
    ∙ ap (λ n. option_map (line_of n) (Some c.in-Some.end)) (length-agreed b K ∙ c.known.ensures.shaped.count ∙ sym c.nodes.ensures)
    ∙ ap Some (sym c.line_of.ensures.value)) in
    record { there = line_within b K c.line_of.result (Link c.args.number c.args.link) goes }
