-- Whether turns heed that the store has failed.
use Rattle.std.specs.Prelude.{Bool, true, false, Result, Ok, Err, if◌then◌else◌}
use Rattle.tp_work.specs.declared.fault.TurnFault.{TurnFault}
use Rattle.tp_work.specs.declared.fault.TurnFault.TheVariants.{Empty, JournalFull, StoreBroken, Memory}
use Rattle.tp_work.specs.declared.heed.Heed.{Heed}
use Rattle.tp_work.specs.declared.heed.Heed.TheVariants.{Unbroken, Ended, Ignored}
use Rattle.tp_work.specs.declared.turn.Turn.{Turn}

-- whether a turn was refused because the store has failed
abbrev pub is_broken : Result Turn TurnFault → Bool
is_broken (Ok turn) = false
is_broken (Err Empty) = false
is_broken (Err JournalFull) = false
is_broken (Err StoreBroken) = true
is_broken (Err Memory) = false

-- whether the turn that was refused for it, if there is one, was the last
abbrev pub is_heeded : Heed → Bool
is_heeded Unbroken = true
is_heeded Ended = true
is_heeded Ignored = false

-- what is noted after one more turn
abbrev pub heed_after : Result Turn TurnFault → Heed → Heed
heed_after done Unbroken = if is_broken done then Ended else Unbroken
heed_after done Ended = Ignored
heed_after done Ignored = Ignored
