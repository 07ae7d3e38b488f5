use Rattle.std.proofs.Common.{◌≡◌, ◌++◌, string_bytes, drop, map}
use Rattle.tp_views.specs.Shown.{nodes_text}
use Rattle.tp_views.proofs.text.shown.push_nodes.Given as goal

abbrev pub invariant-loop-number : goal.invariant-loop-number
invariant-loop-number l =
    string_bytes l.text ++ nodes_text l.json l.number (map (λ node. node.live) (drop l.number l.nodes))
    ≡ string_bytes l.fn.text ++ nodes_text l.fn.json 0 (map (λ node. node.live) l.fn.nodes)
