use Rattle.std.proofs.Common.{◌≡◌, ◌++◌, map, drop}
use Rattle.tp_views.specs.Maps.{read_map, rows_read, rows_seen}
use Rattle.tp_views.proofs.node_maps.read_own.Given as goal

abbrev pub invariant-loop-node : goal.invariant-loop-node
invariant-loop-node l =
    map (λ rows. rows_seen rows.items) l.own.items ++ map (λ text. rows_read (read_map text.items)) (drop l.node l.texts) ≡ map (λ text. rows_read (read_map text.items)) l.texts
