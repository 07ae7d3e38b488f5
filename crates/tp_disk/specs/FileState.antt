-- What a device in a file holds by its calls, and which of its reads were answered.
use Rattle.std.specs.Prelude.{ℕ, true, false, List, [], ◌∷◌, ◌++◌, length, take, get_or, replicate}
use Rattle.tp_disk.specs.Lower.{Moment, Write, Sync, written, done, broken, State, moment}
use Rattle.tp_disk.specs.History.{DeviceTold, FileCall, Medium, Measures, Reads, Resizes, Syncs, SyncsData, Writes}
use Rattle.tp_disk.specs.Reads.{Reading, answered}

-- exactly `count` bytes: the first ones, or all and then bytes 00
abbrev pub fitted : (count : ℕ) → (bytes : List ℕ) → List ℕ
fitted count bytes = take count (bytes ++ replicate count 0)

-- the moment after a call; a write that fails leaves the bytes `torn` in its range
abbrev pub came_of : (torn : List ℕ) → FileCall → Moment → Moment
came_of torn (Reads at came ok) m = m
came_of torn (Writes at bytes true) m = done (Write at bytes) m
came_of torn (Writes at bytes false) m = broken (Write at bytes) (written m.bytes at (fitted (length bytes) torn)) m
came_of torn (Syncs true) m = done Sync m
came_of torn (Syncs false) m = m
came_of torn (SyncsData true) m = done Sync m
came_of torn (SyncsData false) m = m
came_of torn (Measures length) m = m
came_of torn (Resizes length ok) m = m

-- the state after one call more
abbrev pub goes_on : Medium → FileCall → State → State
goes_on medium call s = record { now = came_of (get_or medium.torn (moment s) []) call s.now; past = s.past ++ s.now ∷ [] }

-- the state after all these calls
abbrev pub led_to : Medium → List FileCall → State → State
led_to medium [] s = s
led_to medium (call ∷ calls) s = led_to medium calls (goes_on medium call s)

-- what a call was answered, if it is a read
abbrev pub reading_of : FileCall → Moment → List Reading
reading_of (Reads at came ok) m = answered ok at came m.bytes
reading_of _ m = []

-- what all these calls were answered
abbrev pub readings : Medium → List FileCall → State → List Reading
readings medium [] s = []
readings medium (call ∷ calls) s = reading_of call s.now ++ readings medium calls (goes_on medium call s)

-- a device of `size` bytes before its first call
abbrev pub begins : Medium → ℕ → State
begins medium size = record { now = record { bytes = fitted size medium.first; unsynced = [] }; past = [] }

-- What its calls so far have led to.
abbrev pub told_state : (size : ℕ) → DeviceTold → State
told_state size told = led_to told.medium told.calls (begins told.medium size)

-- Which of its reads so far were answered.
abbrev pub told_reads : (size : ℕ) → DeviceTold → List Reading
told_reads size told = readings told.medium told.calls (begins told.medium size)
