-- Answers that are a value or a fault, taken apart.
use Rattle.std.proofs.Common.{◌≡◌, Bool, true, false, cond, refl, Option, Some, None, sym, ap, ◌∙◌, ℕ}
use Rattle.std.specs.Prelude.{Result, Ok, Err}
use Rattle.tp_law_machine.proofs.Lower.{result_ok, or_damaged, only_if, cond_some}
use Rattle.tp_model.specs.Results.{◌>>=◌}

-- if a chain of tests gives a value, the first test gives one
pub bind_ok : {A B E : Type 0} (first : Result A E) (f : A → Result B E) (y : B) → (first >>= f) ≡ Ok y → (x : A) × (first ≡ Ok x) × (f x ≡ Ok y)
bind_ok (Ok x) f y e = (x, refl, e)
bind_ok (Err fault) f y e = cc

pub or_damaged_ok : {A : Type 0} (at : ℕ) (given : Option A) (x : A) → or_damaged at given ≡ Ok x → given ≡ Some x
or_damaged_ok at None x e = cc
or_damaged_ok at (Some y) x e = cc

-- a fault if the test holds, and if it doesn't
pub fault_or : {A E : Type 0} (b : Bool) (fault : E) (rest : Result A E) (x : A) → cond b (Err fault) rest ≡ Ok x → (b ≡ false) × (rest ≡ Ok x)
fault_or true fault rest x e = cc
fault_or false fault rest x e = (refl, e)

pub or_fault : {A E : Type 0} (b : Bool) (given : Result A E) (fault : E) (x : A) → cond b given (Err fault) ≡ Ok x → (b ≡ true) × (given ≡ Ok x)
or_fault true given fault x e = (refl, e)
or_fault false given fault x e = cc

pub none_or : {A : Type 0} (b : Bool) (given : Option A) (y : A) → cond b None given ≡ Some y → (b ≡ false) × (given ≡ Some y)
none_or true given y e = cc
none_or false given y e = (refl, e)

pub result_ok_some : {A E : Type 0} (r : Result A E) (x : A) → result_ok r ≡ Some x → r ≡ Ok x
result_ok_some (Ok y) x e = cc
result_ok_some (Err fault) x e = cc

-- a value that passed a test
pub tested : {A : Type 0} (test : A → Bool) (given : Option A) (x : A) → only_if test given ≡ Some x → (given ≡ Some x) × (test x ≡ true)
tested test None x is = cc
tested test (Some y) x is =
    let found = cond_some (test y) y x is in
    (ap (λ z. Some z) found.1, ap test (sym found.1) ∙ found.0)
