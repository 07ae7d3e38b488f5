-- The area that isn't open, and what is done to it.
use Rattle.std.specs.Prelude.{◌≡◌, ℕ, Bool, nat_lt, ◌+◌, false, not, if◌then◌else◌, List, [], ◌∷◌, length, Option, Some, None, Ok}
use Rattle.tp_area.specs.Lower.{u8_at, area_start, gate_of, is_open, IsWithin, State, IsSynced, Called, clear_calls, put_calls, switch_calls, NodeState, Held, device_areas, Opened, verdict}
use Rattle.tp_area.specs.declared.place.Place.{Place}
use Rattle.tp_area.specs.declared.fault.StoreFault.{StoreFault}
use Rattle.tp_area.specs.declared.fault.StoreFault.TheVariants.{AreaFull, StoreBroken}
use Rattle.tp_area.specs.Crashes.{StandsOpened, RestsAs}

-- where its gate is
abbrev pub other_gate : Place → ℕ
other_gate place = area_start place.areas (not place.second)

-- a gate, if it is open
abbrev pub if_open : ℕ → List ℕ → Option ℕ
if_open gate bytes = if is_open (u8_at bytes gate) then Some gate else None

-- why nothing is put there that would end at this place of its content, before any call of the device
abbrev pub put_refusal : Bool → Place → ℕ → Option StoreFault
put_refusal broken place end = if broken then Some StoreBroken else if nat_lt end place.areas.length then None else Some AreaFull

abbrev pub OtherIsClosed : Place → State → Type 0
OtherIsClosed place s = is_open (gate_of place.areas (not place.second) s.now.bytes) ≡ false

-- Its gate was read, and closed if it was open, which it is if the areas of the device say so.
pub record Cleared (place : Place) (old new : State) : Type 0 where
  pub called : Called (clear_calls (if_open (other_gate place) old.now.bytes)) old new
  pub asked : (o : Opened) → verdict old.now.bytes ≡ Ok o → device_areas.open_other old.now.bytes ≡ if_open (other_gate place) old.now.bytes
  pub closed : OtherIsClosed place new
  pub rests : (h : Held NodeState) → RestsAs h old → RestsAs h new

-- Bytes were put after its closed gate, where the areas of the device have room to spare. They aren't synced.
pub record PutBehind (place : Place) (at : ℕ) (bytes : List ℕ) (old new : State) : Type 0 where
  pub called : Called (put_calls ((other_gate place + 1 + at, bytes) ∷ [])) old new
  pub spare : (o : Opened) → verdict old.now.bytes ≡ Ok o → IsWithin (device_areas.spare old.now.bytes) (other_gate place + 1 + at, length bytes)
  pub closed : OtherIsClosed place new
  pub rests : (h : Held NodeState) → RestsAs h old → RestsAs h new

-- Its gate was opened, and that is synced. If the areas of the device say what it holds, the device then holds that.
pub record Switched (place : Place) (old new : State) : Type 0 where
  pub called : Called (switch_calls (other_gate place)) old new
  pub synced : IsSynced new
  pub rests : (h k : Held NodeState) (gate : ℕ) → StandsOpened h old.now.bytes → device_areas.other old.now.bytes ≡ Some (gate, k) → RestsAs k new
