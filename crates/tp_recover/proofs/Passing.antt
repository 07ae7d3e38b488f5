-- One reading after another: what the first one answers passes on.
use Rattle.std.proofs.Common.{◌≡◌, ℕ, true, ap, Ok, Err}
use Rattle.std.specs.Prelude.{Result}
use Rattle.tp_recover.proofs.Lower.{OpenFault, ◌>>=◌, Moment, Counts}
use Rattle.tp_recover.specs.declared.unopened.Unopened.{Unopened}
use Rattle.tp_recover.specs.declared.unopened.Unopened.TheVariants.{Fault, ReadFailed, Memory}
use Rattle.tp_recover.specs.Reading.{ReadAnswer, LeavesAlone, found, has_read}

-- an error of the first is the answer of both
pub passed : {A B C D : Type 0} (seen : A → B) (seen_then : C → D) (given : Result B OpenFault) (f : B → Result D OpenFault)
    (error : Unopened) (answer : Result C Unopened)
    → ReadAnswer seen given (Err error) → answer ≡ Err error → ReadAnswer seen_then (given >>= f) answer
passed seen seen_then given f (Fault fault) answer has is =
    rw is (ap (λ g. g >>= f) has)
passed seen seen_then given f ReadFailed answer has is = rw is tt
passed seen seen_then given f Memory answer has is = rw is tt

pub told_fault : {A B : Type 0} (seen : A → B) (given : Result B OpenFault) (fault : OpenFault) (answer : Result A Unopened)
    → given ≡ Err fault → answer ≡ Err (Fault fault) → ReadAnswer seen given answer
told_fault seen given fault answer is told = rw told is

pub found_is : {A : Type 0} (x y : A) → found x ≡ Ok y → x ≡ y
found_is x y is = cc

-- ## A reading, and then what takes no call

pub still_kept : {A : Type 0} (answer : Result A Unopened) (old new : Moment) → new ≡ old → LeavesAlone answer old new
still_kept (Ok x) old new is = is
still_kept (Err (Fault fault)) old new is = is
still_kept (Err ReadFailed) old new is = tt
still_kept (Err Memory) old new is = is

pub still_counts : {A : Type 0} (answer : Result A Unopened) (old_size new_size old_failures new_failures : ℕ) → has_read answer ≡ true
    → Counts true old_size new_size old_failures new_failures → Counts (has_read answer) old_size new_size old_failures new_failures
still_counts answer old_size new_size old_failures new_failures is counts = rw is counts
