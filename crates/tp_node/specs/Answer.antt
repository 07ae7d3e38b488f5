-- What a call answers that may find its end busy.
use Rattle.std.specs.Prelude.{◌≡◌, Option, Some, None, Result, Ok, Err}
use Rattle.tp_node.specs.declared.busy.LinkBusy.{LinkBusy}

-- The end and what is given are those of the definition. If and only if it has none, the end is busy and stays.
abbrev pub Answers : {End Given : Type 0} → Option (End × Given) → End → Result Given LinkBusy → End → Type 0
Answers (Some after) before (Ok given) new = (given ≡ after.1) × (new ≡ after.0)
Answers (Some after) before (Err busy) new = ⊥
Answers None before (Ok given) new = ⊥
Answers None before (Err busy) new = new ≡ before
