-- What is made of numbers that the system says, if it says them: how long something is ago, and how many processors there are.
use Rattle.std.specs.Prelude.{ℕ, ◌/◌, ◌^◌, Bool, nat_lt, if◌then◌else◌, Option, Some, None, Result, Ok, Err}
use Rattle.tp_program.specs.Lower.{as_nanos, non_zero_usize_get, Duration, NonZeroUsize}

-- the milliseconds of a time; 0 if that isn't known, or 64 bits don't hold it
abbrev pub millis_of : {E : Type 0} → Result Duration E → ℕ
millis_of (Ok time) = if nat_lt (as_nanos time / 1_000_000) (2 ^ 64) then as_nanos time / 1_000_000 else 0
millis_of (Err error) = 0

-- the whole seconds of a time; `None` if it isn't known
abbrev pub seconds_in : {E : Type 0} → Result Duration E → Option ℕ
seconds_in (Ok time) = Some (as_nanos time / 1_000_000_000)
seconds_in (Err error) = None

-- The time that lines go by, in milliseconds. There is none while what was said isn't written: a line that may be left out would only queue up.
abbrev pub time_of : {E : Type 0} → Result Duration E → (is_written : Bool) → Option ℕ
time_of time is_written = if is_written then Some (millis_of time) else None

-- how many processors there are; 1 if that isn't known
abbrev pub processors_of : {E : Type 0} → Result NonZeroUsize E → ℕ
processors_of (Ok count) = non_zero_usize_get count
processors_of (Err error) = 1
