use Rattle.std.proofs.Common.{◌≡◌, ◌++◌, string_bytes, drop}
use Rattle.tp_views.specs.Maps.{rows_seen}
use Rattle.tp_views.specs.Waits.{links_part}
use Rattle.tp_views.proofs.waits.wait_lines.push_links.Given as goal

abbrev pub invariant-loop-link : goal.invariant-loop-link
invariant-loop-link l =
    string_bytes l.text ++ links_part (rows_seen l.rows) (drop l.link-index l.links) ≡ string_bytes l.fn.text ++ links_part (rows_seen l.rows) l.links
