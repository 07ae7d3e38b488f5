use Rattle.std.proofs.Common.{◌≡◌, drop}
use Rattle.tp_views.specs.Maps.{address_of, rows_seen}
use Rattle.tp_views.proofs.maps.address_of.Given as goal

abbrev pub invariant-loop-row : goal.invariant-loop-row
invariant-loop-row l = address_of l.label (rows_seen (drop l.row-index l.rows)) ≡ address_of l.label (rows_seen l.rows)
