use Rattle.std.proofs.Common.{sym, ap, ◌∙◌, arith, length, Some}
use Rattle.tp_turn.proofs.Lower.{option_map, slice_get_within, line_of, agreed, length-agreed}
use Rattle.tp_turn.specs.Moments.{moment_of}
use Rattle.tp_turn.proofs.Possible.{comes_in}
use Rattle.tp_turn.proofs.Lining.{link_wired, link_unwired}
use Rattle.tp_turn.proofs.front.act_on_link.Goals as goal

pub receiver-requires : goal.receiver-requires
receiver-requires c =
    let b = c.args.book.now.state in
    let below = slice_get_within (agreed b) c.args.number c.args.node.now.live c.requires.is.there in
    let shape = c.known.ensures.shaped in
    omega (arith, shape.count, shape.lines, below, length-agreed b c.known.ensures.keeps, c.requires.link)

pub act_on_line-requires-clause-goes : goal.act_on_line-requires-clause-goes
act_on_line-requires-clause-goes c =
    let b = c.args.book.now.state in
    let K = c.known.ensures.keeps in
    let below = slice_get_within (agreed b) c.args.number c.args.node.now.live c.requires.is.there in
    comes_in b K c.args.number c.args.link c.line_of-line.result below c.requires.link
    (ap (option_map (line_of (length (agreed b)))) (sym c.receiver.ensures ∙ c.in-Some.is)
    ∙ ap (λ n. option_map (line_of n) (Some c.in-Some.end)) (length-agreed b K ∙ c.known.ensures.shaped.count ∙ sym c.nodes.ensures)
    ∙ ap Some (sym c.line_of-line.ensures.value))

pub returns-in-Some-clause-done : goal.returns-in-Some-clause-done
returns-in-Some-clause-done c =
    let b = c.args.book.now.state in
    link_wired c.args.number c.args.link c.line_of-line.result c.act_on_line.result (moment_of c.args.book.now c.args.node.now) (moment_of c.act_on_line.new.book c.act_on_line.new.node)
    (ap (option_map (line_of (length b.start.nodes))) (sym c.receiver.ensures ∙ c.in-Some.is)
    ∙ ap (λ n. option_map (line_of n) (Some c.in-Some.end)) (c.known.ensures.shaped.count ∙ sym c.nodes.ensures)
    ∙ ap Some (sym c.line_of-line.ensures.value))
    c.act_on_line.ensures.done

pub returns-in-None-clause-done : goal.returns-in-None-clause-done
returns-in-None-clause-done c =
    let b = c.args.book.now.state in
    link_unwired c.args.number c.args.link (moment_of c.args.book.now c.args.node.now)
    (ap (option_map (line_of (length b.start.nodes))) (sym c.receiver.ensures ∙ c.in-None.is)) c.requires.is.there
