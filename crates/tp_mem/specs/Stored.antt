-- What a call that writes answers and leaves.
use Rattle.std.specs.Prelude.{◌≡◌, ℕ, List, Option, Some, None, Result, Ok, Err}
use Rattle.tp_mem.specs.declared.fault.WriteFault.{WriteFault}
use Rattle.tp_mem.specs.declared.fault.WriteFault.TheVariants.{Outside, NoFrame}

-- All is written, or nothing. The answer is `Outside` exactly if an address is outside memory.
abbrev pub IsStored : Option (List ℕ) → List ℕ → Result (Unit {0}) WriteFault → List ℕ → Type 0
IsStored (Some after) before (Ok u) new = new ≡ after
IsStored (Some after) before (Err NoFrame) new = new ≡ before
IsStored (Some after) before (Err Outside) new = ⊥
IsStored None before (Ok u) new = ⊥
IsStored None before (Err NoFrame) new = ⊥
IsStored None before (Err Outside) new = new ≡ before

-- what is true if the answer is `NoFrame`
abbrev pub OnNoFrame : Result (Unit {0}) WriteFault → Type 0 → Type 0
OnNoFrame (Ok u) cause = Unit {0}
OnNoFrame (Err NoFrame) cause = cause
OnNoFrame (Err Outside) cause = Unit {0}
