use Rattle.std.proofs.Common.{◌≡◌, ◌+◌, ◌≤◌, length}
use Rattle.std.specs.Prelude.{option_copied}
use Rattle.tp_views.proofs.Mapped.{bytes_left}
use Rattle.tp_views.specs.Maps.{after_lines, parts_behind, read_map, rows_seen}
use Rattle.tp_views.proofs.maps.read_map.Given as goal

abbrev pub invariant-loop-rest : goal.invariant-loop-rest
invariant-loop-rest l = record {
  count : l.number + bytes_left l.rest ≤ length l.fn.text + 2;
  left : after_lines (rows_seen l.rows.items) l.number (parts_behind (option_copied l.rest)) ≡ read_map l.fn.text;
}

abbrev pub decreases-loop-rest : goal.decreases-loop-rest
decreases-loop-rest l = bytes_left l.rest
