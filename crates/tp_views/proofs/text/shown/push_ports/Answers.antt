use Rattle.std.proofs.Common.{◌∙◌, ◌+◌, ◌++◌, ◌∷◌, ap, sym, append_assoc, string_bytes, drop, map}
use Rattle.std.proofs.lemmas.List.{at_drop_more}
use Rattle.tp_views.specs.Shown.{ports_text}
use Rattle.tp_views.proofs.text.shown.push_ports.Goals as goal

pub loop-number-preserved : goal.loop-number-preserved
loop-number-preserved c =
    let n = c.loop-number.number in
    let all = c.args.ports.now in
    let rest = ports_text c.args.json (n + 1) (map (λ x. x.port) (drop (n + 1) all)) in
    let here = at_drop_more (λ xs. xs) all n c.index-ports-number.result c.loop-number-test.true ∙ ap (λ x. x ∷ drop (n + 1) all) (sym c.index-ports-number.is) in
    ap (λ bytes. bytes ++ rest) c.in_ok-push_port.ensures ∙ append_assoc (string_bytes c.loop-number.text) _ rest
    ∙ ap (λ xs. string_bytes c.loop-number.text ++ ports_text c.args.json n (map (λ x. x.port) xs)) (sym here)
    ∙ c.loop-number.invariant
