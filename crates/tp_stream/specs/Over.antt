-- Whether inputs are over when a stream ends.
use Rattle.std.specs.Prelude.{◌≡◌, Bool, true}
use Rattle.tp_stream.specs.Lower.{Ending, Quiet, Turns, Gone, Halted, Stopped}

-- If the stream ended as quiet, then `over` is true: no input has more bytes that its port may take.
abbrev pub LeavesNoInput : Bool → Ending → Type 0
LeavesNoInput over Quiet = over ≡ true
LeavesNoInput over Turns = Unit {0}
LeavesNoInput over Gone = Unit {0}
LeavesNoInput over Halted = Unit {0}
LeavesNoInput over Stopped = Unit {0}
