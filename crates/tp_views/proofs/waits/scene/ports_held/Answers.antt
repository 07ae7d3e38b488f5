use Rattle.std.proofs.Common.{◌∙◌, ◌++◌, ◌∷◌, [], ap, get_or, map, sym, take}
use Rattle.std.proofs.lemmas.List.{map-append, take_more}
use Rattle.tp_views.specs.Scene.{port_held}
use Rattle.tp_views.proofs.waits.scene.ports_held.Goals as goal

pub loop-port-preserved : goal.loop-port-preserved
loop-port-preserved c =
    let n = c.loop-port.port-index in
    let all = c.args.ports.now in
    let here = get_or all n c.port-item.result in
    c.in_ok-push.ensures.items
    ∙ ap (λ xs. xs ++ c.port_held.result ∷ []) c.loop-port.invariant
    ∙ ap (λ x. map (λ port. port_held port.port) (take n all) ++ x ∷ []) (c.port_held.ensures ∙ ap (λ port. port_held port.port) c.port-item.is)
    ∙ sym (map-append (λ port. port_held port.port) (take n all) (here ∷ []))
    ∙ ap (map (λ port. port_held port.port)) (sym (take_more all n c.port-item.result c.loop-port-test.true))
