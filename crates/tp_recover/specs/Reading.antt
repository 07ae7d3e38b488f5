-- What a reading of a device answers, and what it leaves.
use Rattle.std.specs.Prelude.{◌≡◌, Bool, true, false, Result, Ok, Err}
use Rattle.tp_recover.specs.Lower.{OpenFault, Moment, MayBe, State, LeavesOnly}
use Rattle.tp_recover.specs.declared.unopened.Unopened.{Unopened}
use Rattle.tp_recover.specs.declared.unopened.Unopened.TheVariants.{Fault, ReadFailed, Memory}

-- no call of the device failed
abbrev pub has_read : {A : Type 0} → Result A Unopened → Bool
has_read (Err ReadFailed) = false
has_read _ = true

-- if no call failed, what a read gives and what is unsynced are as before
abbrev pub LeavesAlone : {A : Type 0} → Result A Unopened → Moment → Moment → Type 0
LeavesAlone (Err ReadFailed) old new = Unit {0}
LeavesAlone _ old new = new ≡ old

-- A crash at any moment from the first state to the second one leaves what a crash just before might have left.
abbrev pub LeavesNothingNew : State → State → Type 0
LeavesNothingNew old new = LeavesOnly old new (MayBe old.now)

-- The answer is what the definition gives: its value, as `view` sees it, or its fault. Else the device failed or memory is out.
abbrev pub ReadAnswer : {A B : Type 0} → (A → B) → Result B OpenFault → Result A Unopened → Type 0
ReadAnswer view given (Ok x) = given ≡ Ok (view x)
ReadAnswer view given (Err (Fault fault)) = given ≡ Err fault
ReadAnswer view given (Err ReadFailed) = Unit {0}
ReadAnswer view given (Err Memory) = Unit {0}

-- a value that is there whatever the bytes are
abbrev pub found : {A : Type 0} → A → Result A OpenFault
found x = Ok x

-- memory can't be out, since none is taken
abbrev pub TakesNone : {A : Type 0} → Result A Unopened → Type 0
TakesNone (Ok x) = Unit {0}
TakesNone (Err (Fault fault)) = Unit {0}
TakesNone (Err ReadFailed) = Unit {0}
TakesNone (Err Memory) = ⊥
