-- Devices that were used, one call after another.
use Rattle.std.proofs.Common.{◌≡◌, ◌∙◌, ◌∷◌, ◌++◌, [], ℕ, Bool, List, Option, Result, Ok, Err, inl, refl, ap, append_assoc}
use Rattle.std.specs.Prelude.{IfErr, IfOk, IsSome}
use Rattle.tp_program.specs.Lower.{Seen}
use Rattle.tp_program.specs.Devices.{DeviceCall}
use Rattle.tp_program.specs.Uses.{HasStatus, HaveLooked}

-- one call, and then others
pub and_more : (old mid new : List DeviceCall) (one : DeviceCall) (others : List DeviceCall) → mid ≡ old ++ one ∷ [] → new ≡ mid ++ others → new ≡ old ++ one ∷ others
and_more old mid new one others first second = second ∙ ap (λ (calls : List DeviceCall). calls ++ others) first ∙ append_assoc old _ _

-- what is so of a value by what is so of it under a premise
pub if_ok : {A E : Type 0} (Are : Type 0) (P Q : A → Type 0) (r : Result A E) → (Are → IfOk r P) → ((x : A) → (Are → P x) → Q x) → IfOk r Q
if_ok Are P Q (Ok x) holds makes = makes x holds
if_ok Are P Q (Err e) holds makes = tt

-- and of an error
pub if_err : {A E : Type 0} (P Q : E → Type 0) (r : Result A E) → IfErr r P → ((e : E) → P e → Q e) → IfErr r Q
if_err P Q (Ok x) holds makes = tt
if_err P Q (Err e) holds makes = makes e holds

-- the last check was told
pub told_last : (json : Bool) (path : List ℕ) (old new : List DeviceCall) (was now : Option (List ℕ)) (before : Option Seen) → HaveLooked json path old was new now before → IsSome before
    → HasStatus json path old new was now 0
told_last json path old new was now before looks some = record { mid = new; between = now; before = before; looks = looks; ends = inl (refl, some, refl, refl) }
