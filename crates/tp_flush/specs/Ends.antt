-- How a turn of the flusher ended.
use Rattle.std.specs.Prelude.{◌≡◌, ◌≤◌, ◌⊎◌, ℕ, ◌+◌, Bool, true, false, if◌then◌else◌, drop, Result, Ok, Err}
use Rattle.tp_flush.specs.Lower.{NodeState, IsFrozenAs, Resting, Broken}
use Rattle.tp_flush.specs.declared.fault.FlushFault.{FlushFault}
use Rattle.tp_flush.specs.declared.fault.FlushFault.TheVariants.{AreaFull, DeviceFailed, Memory, StoreBroken}
use Rattle.tp_flush.specs.declared.steps.checkpoint.Checkpoint.{Checkpoint}
use Rattle.tp_flush.specs.Flushing.{Flushing, OnlyLooked}

-- No call of the device has failed.
pub record Rested (old new : Flushing) : Type 0 where
  pub began : old.world.at ≡ Resting
  pub rests : new.world.at ≡ Resting
  pub failures : new.failures ≡ old.failures

-- A call of the device failed, and the mark is where it was.
pub record Failed (old new : Flushing) : Type 0 where
  pub began : old.world.at ≡ Resting
  pub broken : new.world.at ≡ Broken
  pub failures : new.failures ≡ old.failures + 1
  pub mark : new.world.mark ≡ old.world.mark
  pub generation : new.place.generation ≡ old.place.generation

-- No call failed, and the mark is where it was: whatever was copied or stored, the next turn goes on.
pub record Waits (old new : Flushing) : Type 0 where
  pub rested : Rested old new
  pub mark : new.world.mark ≡ old.world.mark
  pub generation : new.place.generation ≡ old.place.generation

-- The mark was raised to what was stored.
pub record MarkRaised (old new : Flushing) : Type 0 where
  pub mark : old.world.mark ≤ new.world.mark
  pub reaches : new.world.stored ≤ new.world.mark
  pub generation : new.place.generation ≡ old.place.generation

-- The backlog was stored and the mark raised. Then a call of the device failed, or nothing did.
pub record FailedBehind (old new : Flushing) : Type 0 where
  pub raised : MarkRaised old new
  pub began : old.world.at ≡ Resting
  pub broken : new.world.at ≡ Broken
  pub failures : new.failures ≡ old.failures + 1

pub record WaitsBehind (old new : Flushing) : Type 0 where
  pub raised : MarkRaised old new
  pub rested : Rested old new

-- An earlier failure of the device comes before everything else. Memory can be out before the first call of the device, or after the mark
-- was raised; the device can fail there, too.
abbrev pub Ended : {A : Type 0} → Result A FlushFault → Flushing → Flushing → Type 0
Ended (Ok given) old new = Rested old new
Ended (Err DeviceFailed) old new = Failed old new ⊎ FailedBehind old new
Ended (Err StoreBroken) old new = (old.world.at ≡ Broken) × (new ≡ old)
Ended (Err Memory) old new = (Waits old new × OnlyLooked old new) ⊎ WaitsBehind old new
Ended (Err AreaFull) old new = Waits old new

-- The answer isn't that the area is full.
abbrev pub IsNotFull : {A : Type 0} → Result A FlushFault → Type 0
IsNotFull (Ok given) = Unit {0}
IsNotFull (Err DeviceFailed) = Unit {0}
IsNotFull (Err StoreBroken) = Unit {0}
IsNotFull (Err Memory) = Unit {0}
IsNotFull (Err AreaFull) = ⊥

-- the generation of the open area grew by one exactly if the flusher switched to the other area
abbrev pub generation_after : Bool → Flushing → Flushing → Type 0
generation_after switched old new = new.place.generation ≡ old.place.generation + (if switched then 1 else 0)

-- Nothing was stored, and the next group goes where it would have gone. The other area stays closed if it was closed, and nodes stay frozen
-- as they were.
pub record NothingStored (old new : Flushing) : Type 0 where
  pub waits : Waits old new
  pub stored : new.world.stored ≡ old.world.stored
  pub place : new.place ≡ old.place
  pub cleared : old.progress.cleared ≡ true → new.progress.cleared ≡ true
  pub frozen : (i : ℕ) (node : NodeState) → IsFrozenAs old.world.net i node → IsFrozenAs new.world.net i node

-- That was done, or a call of the device failed.
abbrev pub Tried : {A : Type 0} → Result A FlushFault → Flushing → Flushing → Type 0
Tried (Ok given) old new = NothingStored old new
Tried (Err DeviceFailed) old new = Failed old new × (new.world.stored ≡ old.world.stored)
Tried (Err StoreBroken) old new = ⊥
Tried (Err Memory) old new = ⊥
Tried (Err AreaFull) old new = ⊥

-- `count` entries of the backlog were appended, or a call of the device failed, or the area was full.
abbrev pub Stored : Result Unit FlushFault → ℕ → Flushing → Flushing → Type 0
Stored (Ok given) count old new =
    Waits old new × (new.world.stored ≡ old.world.stored + count) × (new.world.backlog ≡ drop count old.world.backlog)
Stored (Err DeviceFailed) count old new = Failed old new
Stored (Err StoreBroken) count old new = ⊥
Stored (Err Memory) count old new = ⊥
Stored (Err AreaFull) count old new = Waits old new

-- The store switched to its other area, which holds all that was copied of the book then. No call failed, and the mark is where it was.
pub record StoreSwitched (old new : Flushing) : Type 0 where
  pub rested : Rested old new
  pub mark : new.world.mark ≡ old.world.mark
  pub stored : old.world.stored ≤ new.world.stored
  pub generation : new.place.generation ≡ old.place.generation + 1

-- whether the store switched; if it didn't, nothing was stored
abbrev pub WentOn : Bool → Flushing → Flushing → Type 0
WentOn true old new = StoreSwitched old new
WentOn false old new = NothingStored old new

-- That was done, or a call of the device failed, or memory was out for the copy of the whole cut's tail.
abbrev pub Checkpointed : Result Bool FlushFault → Flushing → Flushing → Type 0
Checkpointed (Ok switched) old new = WentOn switched old new
Checkpointed (Err DeviceFailed) old new = Failed old new × (new.world.stored ≡ old.world.stored)
Checkpointed (Err StoreBroken) old new = ⊥
Checkpointed (Err Memory) old new = NothingStored old new
Checkpointed (Err AreaFull) old new = ⊥

-- whether the store switched, without what became of images
abbrev pub switched_of : Result Checkpoint FlushFault → Result Bool FlushFault
switched_of (Ok done) = Ok done.switched
switched_of (Err fault) = Err fault
