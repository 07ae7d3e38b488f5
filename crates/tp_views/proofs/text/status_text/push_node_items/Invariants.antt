use Rattle.std.proofs.Common.{◌≡◌, ◌++◌, string_bytes, drop, map}
use Rattle.tp_views.specs.Json.{json_items}
use Rattle.tp_views.specs.Status.{node_items}
use Rattle.tp_views.proofs.text.status_text.push_node_items.Given as goal

abbrev pub invariant-loop-number : goal.invariant-loop-number
invariant-loop-number l =
    string_bytes l.text ++ json_items l.number (node_items l.number l.fn.wires l.fn.count l.fn.kept (map (λ node. node.live) (drop l.number l.nodes)))
    ≡ string_bytes l.fn.text ++ json_items 0 (node_items 0 l.fn.wires l.fn.count l.fn.kept (map (λ node. node.live) l.fn.nodes))
