-- What it means that a copy can be put into the other area.
use Rattle.std.specs.Prelude.{◌≡◌, ℕ, ◌+◌, ◌-◌, List, map, length, Some}
use Rattle.tp_law_device.specs.Lower.{Entry, Turns, NodeState, t414, t414_ends, Network, Held, gate_open, written, entries_in, SpellsArea, Opened, held_of, other_start, device_areas}

-- the bytes with this content in the other area
abbrev pub with_other : List ℕ → Opened → List ℕ → List ℕ
with_other bytes o content = written bytes (other_start o + 1) content

-- Some content of the other area spells the copy, of the next generation and with turns. Once it is written the device still holds what it
-- did. The other area is the copy, which is read once its gate is open.
pub record CanPut (bytes : List ℕ) (o : Opened) (copy : Held NodeState) : Type 0 where
  pub content : List ℕ
  pub long : length content ≡ o.head.areas.length - 1
  pub groups : List (List (Entry × ℕ))
  pub now : Network NodeState
  pub spells : SpellsArea t414 t414_ends o.head.topology content (o.generation + 1) Turns copy.base copy.network groups now
  pub entries : map (λ e. e.0) (entries_in groups) ≡ copy.entries
  pub stays : device_areas.verdict (with_other bytes o content) ≡ Some (held_of o)
  pub other : device_areas.other (with_other bytes o content) ≡ Some (other_start o, copy)
  pub opens : device_areas.verdict (written (with_other bytes o content) (other_start o) gate_open) ≡ Some copy
