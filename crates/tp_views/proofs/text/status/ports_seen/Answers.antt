use Rattle.std.proofs.Common.{◌∙◌, ◌++◌, ◌∷◌, [], ap, get_or, map, sym, take}
use Rattle.std.proofs.lemmas.List.{map-append, take_more}
use Rattle.tp_views.specs.Status.{port_seen}
use Rattle.tp_views.proofs.text.status.ports_seen.Goals as goal

pub loop-port-preserved : goal.loop-port-preserved
loop-port-preserved c =
    let n = c.loop-port.port-index in
    let all = c.args.ports.now in
    let here = get_or all n c.port-item.result in
    c.in_ok-push.ensures.items
    ∙ ap (λ xs. xs ++ c.port_seen.result ∷ []) c.loop-port.invariant
    ∙ ap (λ x. map (λ port. port_seen port.port) (take n all) ++ x ∷ []) (c.port_seen.ensures ∙ ap (λ port. port_seen port.port) c.port-item.is)
    ∙ sym (map-append (λ port. port_seen port.port) (take n all) (here ∷ []))
    ∙ ap (map (λ port. port_seen port.port)) (sym (take_more all n c.port-item.result c.loop-port-test.true))
