-- What `compact` does with a device's file.
use Rattle.std.specs.Prelude.{◌≡◌, ◌⊎◌, ℕ, List, Option, IsErr}
use Rattle.tp_program.specs.Lower.{AreTrue, Reading, State, verdict, LeavesNothingNew, History}
use Rattle.tp_program.specs.Compacting.{CompactedAs}
use Rattle.tp_program.specs.Devices.{DeviceCall, UsedOne, WasRefused}

-- What `compact_on` promises of a device, between the state in which it was opened and the one in which it was given back.
pub record CompactedBetween (history : History) (was now : Option (List ℕ)) (status : ℕ) (opened closed : State) (read : List Reading) : Type 0 where
  pub done : CompactedAs history opened closed read was now status
  pub unopened : AreTrue read → IsErr (verdict opened.now.bytes) → (status ≡ 1) × LeavesNothingNew opened closed × (now ≡ was)

-- Either the command was refused, or only the device at this path was opened, compacted, and given back.
abbrev pub CompactedFile : History → (path : List ℕ) → (old new : List DeviceCall) → (was now : Option (List ℕ)) → ℕ → Type 0
CompactedFile history path old new was now status =
    WasRefused old new was now status ⊎ UsedOne path old new (CompactedBetween history was now status)
