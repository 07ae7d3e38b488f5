use Rattle.std.proofs.Common.{◌≡◌, ◌++◌, string_bytes, drop}
use Rattle.tp_views.specs.Scene.{seen_in}
use Rattle.tp_views.specs.Sums.{sums_lines}
use Rattle.tp_views.proofs.waits.sums.push_sums.Given as goal

abbrev pub invariant-loop-number : goal.invariant-loop-number
invariant-loop-number l =
    string_bytes l.text ++ sums_lines (seen_in l.fn.scene) l.number (drop l.number l.fn.scene.nodes.items)
    ≡ string_bytes l.fn.text ++ sums_lines (seen_in l.fn.scene) 0 l.fn.scene.nodes.items
