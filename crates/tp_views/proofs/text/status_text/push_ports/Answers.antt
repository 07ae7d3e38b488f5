use Rattle.std.proofs.Common.{◌∙◌, ◌+◌, ◌++◌, ◌∷◌, ap, sym, append_assoc, string_bytes, drop, map}
use Rattle.std.proofs.lemmas.List.{at_drop_more}
use Rattle.tp_views.specs.Fields.{fields_text}
use Rattle.tp_views.specs.Status.{millis_since, port_seen_fields, ports_text}
use Rattle.tp_views.proofs.text.status_text.push_ports.Goals as goal

pub loop-number-preserved : goal.loop-number-preserved
loop-number-preserved c =
    let n = c.loop-number.number in
    let all = c.args.ports.now in
    let at = c.args.at in
    let before = c.args.before.now in
    let json = c.args.json in
    let rest = ports_text json (n + 1) at before (map (λ x. x.port) (drop (n + 1) all)) in
    let here = at_drop_more (λ xs. xs) all n c.index-ports-number.result c.loop-number-test.true ∙ ap (λ x. x ∷ drop (n + 1) all) (sym c.index-ports-number.is) in
    ap (λ bytes. bytes ++ rest) (c.in_ok-push_port.ensures
    ∙ ap (λ millis. string_bytes c.loop-number.text ++ fields_text json (port_seen_fields n millis c.port_before.result c.index-ports-number.result.port)) c.millis_since.ensures
    ∙ ap (λ then. string_bytes c.loop-number.text ++ fields_text json (port_seen_fields n (millis_since at before) then c.index-ports-number.result.port)) c.port_before.ensures)
    ∙ append_assoc (string_bytes c.loop-number.text) _ rest
    ∙ ap (λ xs. string_bytes c.loop-number.text ++ ports_text json n at before (map (λ x. x.port) xs)) (sym here)
    ∙ c.loop-number.invariant
