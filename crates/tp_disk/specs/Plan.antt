-- What the calls of a device in memory come to, and what it then holds.
use Rattle.std.specs.Prelude.{ℕ, Bool, true, false, if◌then◌else◌, nat_lt, nat_eq, List, length, take, Option, Some, None}
use Rattle.tp_model.specs.Disk.{Moment, Call, Write, Sync, Read, written, done, broken}
use Rattle.tp_disk.specs.declared.plan.PlannedFault.{PlannedFault}
use Rattle.tp_disk.specs.declared.plan.PlannedFault.TheVariants.{Fails, StopsBefore, StopsWithin}
use Rattle.tp_disk.specs.declared.plan.Outcome.{Outcome}
use Rattle.tp_disk.specs.declared.plan.Outcome.TheVariants.{Done, Refused, Torn}
use Rattle.tp_disk.specs.declared.plan.Plan.{Plan}

-- the call that the fault is about
abbrev pub faulty : PlannedFault → Outcome
faulty (Fails torn) = Torn torn
faulty StopsBefore = Refused
faulty (StopsWithin torn) = Torn torn

-- each call after it
abbrev pub after_fault : PlannedFault → Outcome
after_fault (Fails torn) = Done
after_fault StopsBefore = Refused
after_fault (StopsWithin torn) = Refused

-- the call of number n, if the one of number `call` has the fault
abbrev pub planned : Option PlannedFault → (call n : ℕ) → Outcome
planned None call n = Done
planned (Some fault) call n = if nat_lt n call then Done else if nat_eq n call then faulty fault else after_fault fault

-- the call of number n from now, the next one has number 0
abbrev pub becomes : Plan → ℕ → Outcome
becomes plan n = if plan.stopped then Refused else planned plan.fault plan.before n

abbrev pub is_done : Outcome → Bool
is_done Done = true
is_done Refused = false
is_done (Torn torn) = false

-- the bytes after a call that failed: a write's range begins with the torn bytes, up to its end at most
abbrev pub torn_over : Call → List ℕ → List ℕ → List ℕ
torn_over (Write at bytes) torn old = written old at (take (length bytes) torn)
torn_over Sync torn old = old
torn_over Read torn old = old

-- the moment after the call
abbrev pub came_to : Outcome → Call → Moment → Moment
came_to Done call m = done call m
came_to Refused call m = broken call m.bytes m
came_to (Torn torn) call m = broken call (torn_over call torn.items m.bytes) m
