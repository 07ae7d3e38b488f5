-- What an area has room for.
use Rattle.std.proofs.Common.{◌≡◌, ℕ, ◌+◌, ◌≤◌, arith, true}
use Rattle.tp_recover.proofs.Lower.{leb-true, cut_length, is_roomy, reserve, entry_room, room, Topology, line_count}

-- its gate, the fields before its cut image, that image, and the gate after it
pub area_room : (t : Topology) (area : ℕ) → is_roomy t area ≡ true → cut_length t + 46 ≤ area
area_room t area h = omega (arith, leb-true (reserve (line_count t) + entry_room) (room t area) h)
