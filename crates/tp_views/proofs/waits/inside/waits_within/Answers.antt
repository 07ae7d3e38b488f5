use Rattle.std.proofs.Common.{◌∙◌, [], ap}
use Rattle.tp_views.proofs.Lower.{Head, Topology}
use Rattle.tp_views.specs.Inside.{scene_waits}
use Rattle.tp_views.specs.Scene.{scene_of}
use Rattle.tp_views.proofs.waits.inside.waits_within.Goals as goal

pub returns : goal.returns
returns c =
    c.waits_inside.ensures
    ∙ ap scene_waits c.in_ok-scene.ensures.is
    ∙ (λ i. scene_waits (scene_of ((c.wires-wires.ensures.value ∙ ap (λ (t : Topology). t.wires) c.topology.ensures.value ∙ ap (λ (h : Head). h.topology.wires) c.into_parts-head.ensures.head) i) (c.into_parts-head.ensures.network i) []))
