-- How many calls of the device have failed, by what a run answered.
use Rattle.std.specs.Prelude.{◌≡◌, ◌⊎◌, ℕ, ◌+◌, Bool, true, false, if◌then◌else◌, Result, Ok, Err}
use Rattle.tp_run.specs.Lower.{NodeState, Position, Broken, Resting, Unopened}
use Rattle.tp_recover.specs.declared.unopened.Unopened.TheVariants as why
use Rattle.tp_flush.specs.declared.fault.FlushFault.{FlushFault}
use Rattle.tp_flush.specs.declared.fault.FlushFault.TheVariants as flush
use Rattle.tp_flush.specs.Flushing.{Flushing}
use Rattle.tp_run.specs.declared.fault.RunFault.{RunFault}
use Rattle.tp_run.specs.declared.fault.RunFault.TheVariants.{Opening, FlushFailed, LastFlushFailed, Unaccounted, Memory}

-- whether this reason says that a call of the device failed
abbrev pub failed_to_open : Unopened → Bool
failed_to_open why.ReadFailed = true
failed_to_open _ = false

-- whether a fault says that a call of the device failed
abbrev pub is_failure : RunFault → Bool
is_failure (Opening unopened) = failed_to_open unopened
is_failure FlushFailed = true
is_failure LastFlushFailed = true
is_failure _ = false

-- whether an answer says that a call of the device failed
abbrev pub has_failed : {A : Type 0} → Result A RunFault → Bool
has_failed (Ok x) = false
has_failed (Err fault) = is_failure fault

-- how many calls have failed after a run: one more than before if the run says that one failed
abbrev pub failures_after : Bool → ℕ → ℕ
failures_after failed before = before + (if failed then 1 else 0)

-- How the count of failed calls may change while a flusher goes on. If it rests now, it rested before, and no call has failed since. If its device
-- has failed, there are two cases: it had failed before, and no call was made since; or the flusher rested, and one call failed.
pub record CountsFailures (old new : Flushing) : Type 0 where
  pub rests : new.world.at ≡ Resting → (old.world.at ≡ Resting) × (new.failures ≡ old.failures)
  pub broken : new.world.at ≡ Broken → ((old.world.at ≡ Broken) × (new.failures ≡ old.failures)) ⊎ ((old.world.at ≡ Resting) × (new.failures ≡ old.failures + 1))

-- the fault of a run whose flush was refused; `given` is the fault that says that the device failed
abbrev pub flush_fault_of : RunFault → FlushFault → RunFault
flush_fault_of given flush.DeviceFailed = given
flush_fault_of given flush.StoreBroken = given
flush_fault_of given flush.Memory = Memory
flush_fault_of given flush.AreaFull = Unaccounted

-- A fault of a flush and the flusher's position go together: the fault is `given` if the device has failed. Otherwise the flusher rests.
abbrev pub IsFlushFault : RunFault → Position NodeState → RunFault → Type 0
IsFlushFault given at fault = ((fault ≡ given) × (at ≡ Broken)) ⊎ (((fault ≡ Memory) ⊎ (fault ≡ Unaccounted)) × (at ≡ Resting))
