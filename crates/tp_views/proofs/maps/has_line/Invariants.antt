use Rattle.std.proofs.Common.{◌≡◌, false, drop}
use Rattle.tp_views.specs.Maps.{ends_in_line}
use Rattle.tp_views.proofs.maps.has_line.Given as goal

abbrev pub invariant-loop-byte : goal.invariant-loop-byte
invariant-loop-byte l = ends_in_line l.is_colon l.is_number (drop l.byte-index l.place) ≡ ends_in_line false false l.place
