use Rattle.std.proofs.Common.{◌∙◌, ap, map, slice_get, sym}
use Rattle.std.proofs.lemmas.Simd.{map-map}
use Rattle.tp_views.specs.Scene.{node_seen, port_held}
use Rattle.tp_views.proofs.waits.scene.scene_of.Goals as goal

pub returns-clause-is : goal.returns-clause-is
returns-clause-is c =
    let nodes = c.in_ok-nodes_seen.ensures ∙ sym (map-map node_seen (λ node. node.live) c.nodes.result.now) ∙ ap (map node_seen) c.nodes.ensures in
    let fronts = c.in_ok-fronts_of.ensures ∙ ap (map (λ line. slice_get line 0)) c.lines.ensures in
    let ports = c.in_ok-ports_held.ensures ∙ sym (map-map port_held (λ port. port.port) c.ports.result.now) ∙ ap (map port_held) c.ports.ensures in
    λ i. record { wires = c.in_ok-from_slice.ensures.items i; nodes = nodes i; fronts = fronts i; ports = ports i; since = c.new.ensures.items i }
