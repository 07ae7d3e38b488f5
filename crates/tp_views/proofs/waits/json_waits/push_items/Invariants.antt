use Rattle.std.proofs.Common.{◌≡◌, ◌++◌, string_bytes, drop}
use Rattle.tp_views.specs.JsonWaits.{items_from}
use Rattle.tp_views.specs.Maps.{rows_seen}
use Rattle.tp_views.proofs.waits.json_waits.push_items.Given as goal

abbrev pub invariant-loop-before : goal.invariant-loop-before
invariant-loop-before l =
    string_bytes l.text ++ items_from (rows_seen l.rows) l.sends l.before (drop l.before l.links)
    ≡ string_bytes l.fn.text ++ items_from (rows_seen l.rows) l.sends 0 l.links
