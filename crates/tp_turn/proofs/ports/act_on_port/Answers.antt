use Rattle.std.proofs.Common.{◌*◌, ◌+◌, sym, ap, ◌∙◌, arith, Some}
use Rattle.tp_turn.proofs.Lower.{option_map, receiver, line_of, length-agreed}
use Rattle.tp_turn.proofs.Possible.{comes_to}
use Rattle.tp_turn.proofs.Hosting.{port_wired, port_unwired}
use Rattle.tp_turn.proofs.ports.act_on_port.Goals as goal

pub receiver-requires : goal.receiver-requires
receiver-requires c = omega (arith, c.known.ensures.shaped.lines, c.requires.there, c.nodes-nodes.ensures)

pub act_on_line-requires-clause-goes : goal.act_on_line-requires-clause-goes
act_on_line-requires-clause-goes c =
    let b = c.args.book.now.state in
    let K = c.known.ensures.keeps in
    let many = length-agreed b K ∙ c.known.ensures.shaped.count ∙ sym c.nodes-nodes.ensures in
    comes_to b K c.args.port c.line_of-line.result
    (ap (λ n. option_map (line_of n) (receiver b.start.wires (4 * n + c.args.port))) many
    ∙ ap (option_map (line_of c.nodes-nodes.result)) (sym c.receiver.ensures ∙ c.in-Some.is)
    ∙ ap Some (sym c.line_of-line.ensures.value))

pub returns-in-Some : goal.returns-in-Some
returns-in-Some c =
    let b = c.args.book.now.state in
    let many = c.known.ensures.shaped.count ∙ sym c.nodes-nodes.ensures in
    port_wired c.args.port c.line_of-line.result c.act_on_line.result c.args.book.now c.act_on_line.new.book
    (ap (λ n. option_map (line_of n) (receiver b.start.wires (4 * n + c.args.port))) many
    ∙ ap (option_map (line_of c.nodes-nodes.result)) (sym c.receiver.ensures ∙ c.in-Some.is)
    ∙ ap Some (sym c.line_of-line.ensures.value))
    c.act_on_line.ensures

pub returns-in-None : goal.returns-in-None
returns-in-None c =
    let b = c.args.book.now.state in
    let many = c.known.ensures.shaped.count ∙ sym c.nodes-nodes.ensures in
    port_unwired c.args.port c.args.book.now
    (ap (λ n. option_map (line_of n) (receiver b.start.wires (4 * n + c.args.port))) many
    ∙ ap (option_map (line_of c.nodes-nodes.result)) (sym c.receiver.ensures ∙ c.in-None.is))
