use Rattle.std.proofs.Common.{◌≡◌, ◌*◌, ◌+◌, true, false, length, sym, ap, ◌∙◌, arith, rules, Some, None}
use Rattle.tp_turn.proofs.Lower.{option_map, slice_get_within, Marker, Link, is_first, line_of, on_line, process_at, receiver, has_recorded_in, agreed, length-agreed}
use Rattle.tp_turn.proofs.Fronted.{closed_is}
use Rattle.tp_turn.proofs.Marking.{front_closed, front_open, front_unrecorded, front_unwired}
use Rattle.tp_turn.proofs.Possible.{comes_in, line_within}
use Rattle.tp_turn.proofs.markers.close_front.Goals as goal

pub recorded-requires : goal.recorded-requires
recorded-requires c =
    let b = c.args.book.now.state in
    let below = slice_get_within (agreed b) c.args.number c.args.node.now.live c.requires.is.there in
    omega (arith, c.known.ensures.shaped.count, below, length-agreed b c.known.ensures.keeps)

pub receiver-requires : goal.receiver-requires
receiver-requires c =
    let b = c.args.book.now.state in
    let below = slice_get_within (agreed b) c.args.number c.args.node.now.live c.requires.is.there in
    let shape = c.known.ensures.shaped in
    omega (arith, shape.count, shape.lines, below, length-agreed b c.known.ensures.keeps, c.requires.link)

pub returns-then-not-recorded-clause-done : goal.returns-then-not-recorded-clause-done
returns-then-not-recorded-clause-done c =
    let not : has_recorded_in c.args.book.now.state.snapshot c.args.number ≡ false = search rules in
    front_unrecorded c.args.book.now c.args.number c.args.link c.args.node.now c.requires.is not

pub returns-in_default-clause-done : goal.returns-in_default-clause-done
returns-in_default-clause-done c =
    let b = c.args.book.now.state in
    let none : receiver b.start.wires (4 * c.args.number + c.args.link) ≡ None = search rules in
    front_unwired c.args.book.now c.args.number c.args.link c.args.node.now c.requires.is (ap (option_map (line_of (length b.start.nodes))) none)

pub marker_ready-requires : goal.marker_ready-requires
marker_ready-requires c =
    let b = c.args.book.now.state in
    let K = c.known.ensures.keeps in
    let below = slice_get_within (agreed b) c.args.number c.args.node.now.live c.requires.is.there in
    let goes = comes_in b K c.args.number c.args.link c.line_of-line.result below c.requires.link
    (ap (option_map (line_of (length (agreed b)))) (sym c.receiver.ensures ∙ c.in-Some.is)
    ∙ ap (λ n. option_map (line_of n) (Some c.in-Some.end)) (length-agreed b K ∙ c.known.ensures.shaped.count ∙ sym c.nodes.ensures)
    ∙ ap Some (sym c.line_of-line.ensures.value)) in
    line_within b K c.line_of-line.result (Link c.args.number c.args.link) goes

pub close_line-requires-clause-recorded : goal.close_line-requires-clause-recorded
close_line-requires-clause-recorded c =
    let b = c.args.book.now.state in
    let K = c.known.ensures.keeps in
    let below = slice_get_within (agreed b) c.args.number c.args.node.now.live c.requires.is.there in
    let recorded : has_recorded_in b.snapshot c.args.number ≡ true = search rules in
    let goes = comes_in b K c.args.number c.args.link c.line_of-line.result below c.requires.link
    (ap (option_map (line_of (length (agreed b)))) (sym c.receiver.ensures ∙ c.in-Some.is)
    ∙ ap (λ n. option_map (line_of n) (Some c.in-Some.end)) (length-agreed b K ∙ c.known.ensures.shaped.count ∙ sym c.nodes.ensures)
    ∙ ap Some (sym c.line_of-line.ensures.value)) in
    ap (λ end. has_recorded_in b.snapshot (process_at (length b.start.nodes) end)) goes ∙ recorded

pub returns-then-marker_ready-clause-done : goal.returns-then-marker_ready-clause-done
returns-then-marker_ready-clause-done c =
    let b = c.args.book.now.state in
    let recorded : has_recorded_in b.snapshot c.args.number ≡ true = search rules in
    let first : is_first (on_line b.lines c.line_of-line.result) Marker ≡ true = search rules in
    front_closed c.args.book.now c.args.number c.args.link c.args.node.now c.requires.is c.line_of-line.result
    (ap (option_map (line_of (length b.start.nodes))) (sym c.receiver.ensures ∙ c.in-Some.is)
    ∙ ap (λ n. option_map (line_of n) (Some c.in-Some.end)) (c.known.ensures.shaped.count ∙ sym c.nodes.ensures)
    ∙ ap Some (sym c.line_of-line.ensures.value))
    c.close_line.new.self c.close_line.ensures.book first recorded c.close_line.ensures.act

pub returns-then-marker_ready-clause-is : goal.returns-then-marker_ready-clause-is
returns-then-marker_ready-clause-is c = closed_is c.args.book.now c.close_line.new.self c.line_of-line.result c.args.number c.args.node.now c.close_line.ensures.book c.requires.is

pub returns-else-marker_ready-clause-done : goal.returns-else-marker_ready-clause-done
returns-else-marker_ready-clause-done c =
    let b = c.args.book.now.state in
    let shut : is_first (on_line b.lines c.line_of-line.result) Marker ≡ false = search rules in
    front_open c.args.book.now c.args.number c.args.link c.args.node.now c.requires.is c.line_of-line.result
    (ap (option_map (line_of (length b.start.nodes))) (sym c.receiver.ensures ∙ c.in-Some.is)
    ∙ ap (λ n. option_map (line_of n) (Some c.in-Some.end)) (c.known.ensures.shaped.count ∙ sym c.nodes.ensures)
    ∙ ap Some (sym c.line_of-line.ensures.value)) shut
