-- How far ports count.
use Rattle.std.specs.Prelude.{◌≡◌, ◌<◌, ℕ, ◌+◌, ◌-◌, ◌^◌, min, List, [], ◌∷◌, Some, slice_get}
use Rattle.tp_replay.specs.Lower.{NodeState, Network, Port}

-- each port can count one more byte
abbrev pub PortsCanCount : Network NodeState → Type 0
PortsCanCount s = (p : ℕ) (port : Port) → slice_get s.ports p ≡ Some port → port.in_base + 1 < 2 ^ 64

-- With how many entries a part can go on for its counters. A part without ports counts nothing, and no list of entries is longer.
abbrev pub most_entries : ℕ
most_entries = 2 ^ 64 - 1

-- with ports it is the least of what each can still count, since an entry counts at most one
unfoldable pub room_of : List Port → ℕ
room_of [] = most_entries
room_of (port ∷ ports) = min (most_entries - port.in_base) (room_of ports)
