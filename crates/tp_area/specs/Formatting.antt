-- What formatting a device answers, and what it writes.
use Rattle.std.specs.Prelude.{◌≡◌, ◌≤◌, ◌⊎◌, ℕ, ◌*◌, Bool, true, false, List, [], ◌∷◌, ◌++◌, Option, Some, None, Result, Ok, Err}
use Rattle.tp_area.specs.Lower.{AllByRecursion, TwoAreas, Turns, GATE_OPEN, GATE_CLOSED, u32_bytes, u64_bytes, NodeState, Network, Topology, area_start, MayBe, Write, Sync, SameOutside, written, State, IsSynced, Called, put_calls, gate_closed, base_number, head_bytes, version_for, front_bytes, start_of, IsFormatted}
use Rattle.tp_area.specs.Puts.{ButFor}
use Rattle.tp_area.specs.declared.fault.FormatFault.{FormatFault}
use Rattle.tp_area.specs.declared.fault.FormatFault.TheVariants.{BadImage, Memory, AreaFull, DeviceFailed}

-- Whether images may be on a formatted device, and the answer. `Memory` may be answered before a bad image is found.
abbrev pub Checks : {A : Type 0} → Option A → Result (Unit {0}) FormatFault → Type 0
Checks (Some x) (Ok unit) = Unit {0}
Checks None (Ok unit) = ⊥
Checks o (Err Memory) = Unit {0}
Checks None (Err BadImage) = Unit {0}
Checks (Some x) (Err BadImage) = ⊥
Checks o (Err AreaFull) = ⊥
Checks o (Err DeviceFailed) = ⊥

-- what the first area begins with: its open gate, generation 1, the length of its cut, and that the cut holds no entry and the area
-- may hold turns
unfoldable pub area_front : ℕ → List ℕ
area_front cut = GATE_OPEN ∷ (u64_bytes 1 ++ (u32_bytes cut ++ u64_bytes (base_number Turns 0)))

-- the first area as far as it is written: its gate, its fields, the cut of that network, and a closed gate
abbrev pub fresh_area : Topology → Network NodeState → List ℕ
fresh_area t s = GATE_OPEN ∷ (front_bytes t 1 Turns 0 s ++ GATE_CLOSED ∷ [])

-- a content with both areas in it, as far as they are written: this first area, and the second one's closed gate
abbrev pub with_areas : List ℕ → TwoAreas → List ℕ → List ℕ
with_areas first areas old = written (written old areas.first first) (area_start areas true) gate_closed

-- Both areas were written and synced before the head was, and that is synced too. All other bytes are as they were.
pub record Wrote (first head : List ℕ) (areas : TwoAreas) (old new : State) : Type 0 where
  pub pieces : List (ℕ × List ℕ)
  pub behind_head : AllByRecursion (λ piece. areas.first ≤ piece.0) pieces
  pub called : Called (put_calls pieces ++ (Sync ∷ Write 0 head ∷ Sync ∷ [])) old new
  pub bytes : new.now.bytes ≡ written (with_areas first areas old.now.bytes) 0 head

-- The device was formatted, with turns, for the network of the images, before its first entry. Whatever a crash leaves from then on is
-- formatted like this, too.
pub record Formatted (t : Topology) (images : List (List ℕ)) (areas : TwoAreas) (old new : State) : Type 0 where
  pub start : Network NodeState
  pub is : start_of t images ≡ Some start
  pub wrote : Wrote (fresh_area t start) (head_bytes (version_for t) t areas) areas old new
  pub synced : IsSynced new
  pub formatted : (left : List ℕ) → MayBe new.now left → IsFormatted t areas Turns start left

-- Both areas are complete, whatever the head is: all outside it is as at the end of formatting.
pub record HasNewAreas (t : Topology) (images : List (List ℕ)) (areas : TwoAreas) (old left : List ℕ) : Type 0 where
  pub start : Network NodeState
  pub is : start_of t images ≡ Some start
  pub same : SameOutside 0 areas.first (with_areas (fresh_area t start) areas old) left

-- What a crash since formatting began leaves: everything outside the areas, the head too, as a crash before might have left it; or both
-- areas complete.
abbrev pub IsOldOrNew : Topology → List (List ℕ) → TwoAreas → State → List ℕ → Type 0
IsOldOrNew t images areas old left = ButFor areas.first (2 * areas.length) old.now left ⊎ HasNewAreas t images areas old.now.bytes left

-- The answer: images that don't fit the topology before a device that is too small, and both before any call of the device. `Memory` may
-- come before both.
abbrev pub FormatAnswer : {A : Type 0} → Option A → Bool → Result (Unit {0}) FormatFault → Type 0
FormatAnswer start fits (Err Memory) = Unit {0}
FormatAnswer None fits (Err BadImage) = Unit {0}
FormatAnswer None fits (Err AreaFull) = ⊥
FormatAnswer None fits (Err DeviceFailed) = ⊥
FormatAnswer None fits (Ok unit) = ⊥
FormatAnswer (Some s) fits (Err BadImage) = ⊥
FormatAnswer (Some s) true (Err AreaFull) = ⊥
FormatAnswer (Some s) false (Err AreaFull) = Unit {0}
FormatAnswer (Some s) true (Err DeviceFailed) = Unit {0}
FormatAnswer (Some s) false (Err DeviceFailed) = ⊥
FormatAnswer (Some s) true (Ok unit) = Unit {0}
FormatAnswer (Some s) false (Ok unit) = ⊥

-- the answer comes before any call of the device
abbrev pub is_early : Result (Unit {0}) FormatFault → Bool
is_early (Ok unit) = false
is_early (Err DeviceFailed) = false
is_early (Err AreaFull) = true
is_early (Err Memory) = true
is_early (Err BadImage) = true

-- how many calls of the device failed
abbrev pub failed_calls : Result (Unit {0}) FormatFault → ℕ
failed_calls (Err DeviceFailed) = 1
failed_calls result = 0
