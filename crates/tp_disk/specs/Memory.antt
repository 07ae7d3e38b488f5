-- A device in memory: what has happened to it, and what a call of it comes to.
use Rattle.std.specs.Prelude.{◌≡◌, ℕ, ◌+◌, Bool, List}
use Rattle.tp_disk.specs.Lower.{Call, State, MomentPassed}
use Rattle.tp_disk.specs.declared.counted.Counted.{Counted}
use Rattle.tp_disk.specs.declared.memory.RawMemory.{RawMemory}
use Rattle.tp_disk.specs.declared.plan.Outcome.{Outcome}
use Rattle.tp_disk.specs.declared.plan.Plan.{Plan}
use Rattle.tp_disk.specs.Reads.{Reading}
use Rattle.tp_disk.specs.Plan.{becomes, is_done, came_to}

-- its bytes and ranges now, and before each call so far
abbrev pub memory_state : RawMemory → State
memory_state memory = record {
  now = record { bytes = memory.bytes.items; unsynced = memory.history.told.unsynced };
  past = memory.history.told.past;
}

-- which of its reads were answered
abbrev pub memory_reads : RawMemory → List Reading
memory_reads memory = memory.history.told.reads

-- what its calls have led to, if it counts its failures
abbrev pub disk_state : Counted RawMemory → State
disk_state disk = memory_state disk.raw

-- what its calls come to
abbrev pub disk_plan : Counted RawMemory → Plan
disk_plan disk = disk.raw.plan

-- A call came to what was planned, and the moment before it is past.
pub record CameTo (outcome : Outcome) (call : Call) (is_ok : Bool) (old new : State) : Type 0 where
  pub result : is_ok ≡ is_done outcome
  pub now : new.now ≡ came_to outcome call old.now
  pub past : MomentPassed old new

-- a plan goes on by one call
abbrev pub PlanGoesOn : Plan → Plan → Type 0
PlanGoesOn old new = (n : ℕ) → becomes new n ≡ becomes old (n + 1)
