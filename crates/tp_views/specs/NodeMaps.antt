-- The maps of a device's nodes as code keeps them, and why one can't be read.
use Rattle.std.specs.Prelude.{◌≡◌, ℕ, List, map}
use Rattle.tp_views.specs.Maps.{IsMapFault, Maps, read_map, rows_seen}
use Rattle.tp_views.specs.declared.maps.MapFault.{MapFault}
use Rattle.tp_views.specs.declared.maps.MapFault.TheVariants.{Line, Memory as NoMemory}
use Rattle.tp_views.specs.declared.node_maps.NodeMaps.{NodeMaps}
use Rattle.tp_views.specs.declared.refusal.MapFile.{MapFile}
use Rattle.tp_views.specs.declared.refusal.Refusal.{Refusal}
use Rattle.tp_views.specs.declared.refusal.Refusal.TheVariants.{BadMap, Memory}

abbrev pub maps_seen : NodeMaps → Maps
maps_seen maps = record { own = map (λ rows. rows_seen rows.items) maps.own.items; all = rows_seen maps.all.items }

abbrev pub refusal_of : MapFile → MapFault → Refusal
refusal_of file (Line number) = BadMap file number
refusal_of file NoMemory = Memory

-- Why the map in a file can't be read: a line of it, counted from 1, isn't one of a map; or memory ran out.
abbrev pub IsMapRefusal : List ℕ → MapFile → Refusal → Type 0
IsMapRefusal text file refusal = (fault : MapFault) × IsMapFault (read_map text) fault × (refusal ≡ refusal_of file fault)
