use Rattle.std.proofs.Common.{◌≡◌, ◌∙◌, ◌%◌, ◌/◌, ◌-◌, ◌*◌, ℕ, List, [], ◌∷◌, sym, refl, arith, ap, map, length, slice_get, not, option_map}
use Rattle.std.specs.Prelude.{vec_len, ◌==◌}
use Rattle.tp_recover.proofs.Lower.{length-map, ne_eqb, slice_get-map, slice_get_read, t414_ends, is_pending, is_some_byte, port_made, end_waits-link, end_waits-port}
use Rattle.tp_recover.specs.Parts.{network_of_parts}
use Rattle.tp_recover.proofs.area.flights.end_waits.Goals as goal

some_byte : (bytes : List ℕ) → not (length bytes == 0) ≡ is_some_byte bytes
some_byte [] = refl
some_byte (x ∷ xs) = ap not (ne_eqb (length (x ∷ xs)) 0 (λ h. omega (arith, h)))

pub returns-then-line-links : goal.returns-then-line-links
returns-then-line-links c =
    let nodes = c.args.parts.nodes.now in
    let n = c.index-parts-line.result in
    c.waits.ensures ∙ ap (λ m. t414_ends.waits m.live (c.args.line % 4)) (sym c.index-parts-line.is) ∙ sym (end_waits-link t414_ends (network_of_parts c.args.parts) c.args.line n.live
    (omega (arith, length-map nodes (λ m. m.live), c.if-line-links.true, c.port_line-links.ensures))
    (slice_get-map (λ m. m.live) nodes (c.args.line / 4) ∙ ap (option_map (λ m. m.live)) (slice_get_read nodes (length nodes) (c.args.line / 4) n refl (omega (arith, c.if-line-links.true, c.port_line-links.ensures)) c.index-parts-line.is)))

pub returns-else-line-links : goal.returns-else-line-links
returns-else-line-links c =
    let nodes = c.args.parts.nodes.now in
    let ports = c.args.parts.ports.now in
    let p = c.index-parts-line-else-line-links.result in
    let first : c.port_line-links.result ≡ 4 * length nodes = omega (arith, c.port_line-links.ensures) in
    let at = slice_get-map port_made ports (c.args.line - c.port_line-links.result) ∙ ap (option_map port_made) (slice_get_read ports (length ports) (c.args.line - c.port_line-links.result) p refl (omega (arith, c.if-line-links.false, c.port_line-links.ensures, c.requires.there)) c.index-parts-line-else-line-links.is) in
    ap not c.is_empty.ensures ∙ ap (λ q. not (vec_len q.pending == 0)) (sym c.index-parts-line-else-line-links.is) ∙ ap (λ n. not (n == 0)) p.pending.ok.0 ∙ some_byte p.pending.items ∙ ap is_pending (sym at) ∙ ap (λ n. is_pending (slice_get (map port_made ports) (c.args.line - n))) first ∙ ap (λ n. is_pending (slice_get (map port_made ports) (c.args.line - 4 * n))) (sym (length-map nodes (λ m. m.live)))
    ∙ sym (end_waits-port t414_ends (network_of_parts c.args.parts) c.args.line (omega (arith, length-map nodes (λ m. m.live), c.if-line-links.false, c.port_line-links.ensures)))
