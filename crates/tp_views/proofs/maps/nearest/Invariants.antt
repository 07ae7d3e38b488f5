use Rattle.std.proofs.Common.{◌≡◌, ◌≤◌, drop, None}
use Rattle.std.specs.Prelude.{IfSome}
use Rattle.std.specs.Option.{option_map}
use Rattle.tp_views.specs.Maps.{nearest_from, row_seen, rows_seen}
use Rattle.tp_views.proofs.maps.nearest.Given as goal

abbrev pub invariant-loop-row : goal.invariant-loop-row
invariant-loop-row l = record {
  left : nearest_from (option_map row_seen l.found) l.of_labels l.address (rows_seen (drop l.row-index l.rows)) ≡ nearest_from None l.of_labels l.address (rows_seen l.rows);
  below : IfSome l.found (λ row. row.address ≤ l.address);
}
