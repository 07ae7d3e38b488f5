use Rattle.std.proofs.Common.{◌≡◌, ◌++◌, string_bytes, drop, map}
use Rattle.std.specs.Fmt.{decimal}
use Rattle.tp_views.specs.Json.{json_items}
use Rattle.tp_views.proofs.text.json_port.push_bytes.Given as goal

abbrev pub invariant-loop-number : goal.invariant-loop-number
invariant-loop-number l =
    string_bytes l.text ++ json_items l.number (map decimal (drop l.number l.bytes)) ≡ string_bytes l.fn.text ++ json_items 0 (map decimal l.fn.bytes)
