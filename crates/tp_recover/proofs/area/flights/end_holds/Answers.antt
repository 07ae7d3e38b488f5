use Rattle.std.proofs.Common.{◌∙◌, ◌%◌, ◌/◌, sym, refl, arith, ap, length, option_map}
use Rattle.tp_recover.proofs.Lower.{length-map, slice_get-map, slice_get_read, t414_ends, end_holds-link, end_holds-port}
use Rattle.tp_recover.specs.Parts.{network_of_parts}
use Rattle.tp_recover.proofs.area.flights.end_holds.Goals as goal

pub returns-then-line-links : goal.returns-then-line-links
returns-then-line-links c =
    let nodes = c.args.parts.nodes.now in
    let n = c.index-parts-line.result in
    c.holds.ensures ∙ ap (λ m. t414_ends.holds m.live (c.args.line % 4)) (sym c.index-parts-line.is) ∙ sym (end_holds-link t414_ends (network_of_parts c.args.parts) c.args.line n.live
    (omega (arith, length-map nodes (λ m. m.live), c.if-line-links.true, c.port_line-links.ensures))
    (slice_get-map (λ m. m.live) nodes (c.args.line / 4) ∙ ap (option_map (λ m. m.live)) (slice_get_read nodes (length nodes) (c.args.line / 4) n refl (omega (arith, c.if-line-links.true, c.port_line-links.ensures)) c.index-parts-line.is)))

pub returns-else-line-links : goal.returns-else-line-links
returns-else-line-links c =
    sym (end_holds-port t414_ends (network_of_parts c.args.parts) c.args.line (omega (arith, length-map c.args.parts.nodes.now (λ m. m.live), c.if-line-links.false, c.port_line-links.ensures)))
