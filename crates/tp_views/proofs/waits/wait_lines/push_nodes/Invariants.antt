use Rattle.std.proofs.Common.{◌≡◌, ◌++◌, string_bytes, drop}
use Rattle.tp_views.specs.NodeMaps.{maps_seen}
use Rattle.tp_views.specs.Scene.{seen_in}
use Rattle.tp_views.specs.Waits.{nodes_lines}
use Rattle.tp_views.proofs.waits.wait_lines.push_nodes.Given as goal

abbrev pub invariant-loop-number : goal.invariant-loop-number
invariant-loop-number l =
    string_bytes l.text ++ nodes_lines (seen_in l.fn.scene) (maps_seen l.fn.maps) l.number (drop l.number l.fn.scene.nodes.items)
    ≡ string_bytes l.fn.text ++ nodes_lines (seen_in l.fn.scene) (maps_seen l.fn.maps) 0 l.fn.scene.nodes.items
