-- Which faults say that a call of the device has failed, and how many calls have.
use Rattle.std.specs.Prelude.{◌≡◌, ℕ, ◌+◌, Bool, true, false, if◌then◌else◌, Result, Ok, Err}
use Rattle.tp_stream.specs.Lower.{OpenFault, Opened, ReadAnswer, Unopened}
use Rattle.tp_recover.specs.declared.unopened.Unopened.TheVariants as opening
use Rattle.tp_stream.specs.Lower.{Flushing, position, FlushFault}
use Rattle.tp_flush.specs.declared.fault.FlushFault.TheVariants as flush
use Rattle.tp_stream.specs.declared.fault.StreamFault.{StreamFault}
use Rattle.tp_stream.specs.declared.fault.StreamFault.TheVariants.{Opening, FlushFailed, NotStored, Memory}

-- ## Opening the device

-- The device opened.
abbrev pub HasOpened : Result Opened OpenFault → Type 0
HasOpened given = (opened : Opened) × (given ≡ Ok opened)

-- When a stream may give this answer. A fault of the opening is what the opening answers: the device's bytes give it, a call of the device failed, or
-- memory ran out. Any other answer comes only if the device opened.
abbrev pub StreamAnswer : {A : Type 0} → Result Opened OpenFault → Result A StreamFault → Type 0
StreamAnswer given (Err (Opening unopened)) = ReadAnswer (λ (opened : Opened). opened) given (Err unopened)
StreamAnswer given _ = HasOpened given

-- ## Calls that failed

-- the stream's fault, for a fault of the flusher's turn
abbrev pub flushing_fault : FlushFault → StreamFault
flushing_fault flush.DeviceFailed = FlushFailed
flushing_fault flush.StoreBroken = FlushFailed
flushing_fault flush.Memory = Memory
flushing_fault flush.AreaFull = NotStored

-- whether this reason says that a call failed at the opening
abbrev pub opening_failed : Unopened → Bool
opening_failed opening.ReadFailed = true
opening_failed _ = false

-- whether a fault says that a call of the device failed
abbrev pub fault_failed : StreamFault → Bool
fault_failed (Opening unopened) = opening_failed unopened
fault_failed FlushFailed = true
fault_failed _ = false

-- whether an answer says that a call of the device failed
abbrev pub answer_failed : {A : Type 0} → Result A StreamFault → Bool
answer_failed (Ok x) = false
answer_failed (Err fault) = fault_failed fault

-- how many calls have failed after a stream: one more than before if it says that one failed
abbrev pub calls_failed : Bool → ℕ → ℕ
calls_failed failed before = before + (if failed then 1 else 0)

-- If `failed` is true, one more call of the flusher's device has failed than before, and the flusher is broken. Otherwise no more have, and it rests.
pub record FailedWhere (failed : Bool) (old new : Flushing) : Type 0 where
  pub at : new.world.at ≡ position failed
  pub calls : new.failures ≡ calls_failed failed old.failures
