-- What a call needs of the device.
use Rattle.std.specs.Prelude.{◌+◌, ◌≤◌, length}
use Rattle.tp_model.specs.Disk.{Moment, Call, Write, Sync, Read}

-- a write's range is inside
abbrev pub IsMomentInside : Call → Moment → Type 0
IsMomentInside (Write at bytes) m = at + length bytes ≤ length m.bytes
IsMomentInside Sync m = Unit {0}
IsMomentInside Read m = Unit {0}
