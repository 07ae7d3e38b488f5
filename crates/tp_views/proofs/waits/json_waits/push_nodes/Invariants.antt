use Rattle.std.proofs.Common.{◌≡◌, ◌++◌, string_bytes, drop}
use Rattle.tp_views.specs.JsonWaits.{nodes_items}
use Rattle.tp_views.specs.NodeMaps.{maps_seen}
use Rattle.tp_views.specs.Scene.{seen_in}
use Rattle.tp_views.proofs.waits.json_waits.push_nodes.Given as goal

abbrev pub invariant-loop-number : goal.invariant-loop-number
invariant-loop-number l =
    string_bytes l.text ++ nodes_items (seen_in l.fn.scene) l.fn.reached (maps_seen l.fn.maps) l.number (drop l.number l.fn.scene.nodes.items)
    ≡ string_bytes l.fn.text ++ nodes_items (seen_in l.fn.scene) l.fn.reached (maps_seen l.fn.maps) 0 l.fn.scene.nodes.items
