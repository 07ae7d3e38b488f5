-- What is wrong with ends.
use Rattle.std.proofs.Common.{◌≡◌, ◌<◌, ◌≤◌, ℕ, Bool, true, false, Some, None, refl, inl, inr, nat_lt}
use Rattle.std.specs.Prelude.{if◌then◌else◌}
use Rattle.tp_words.proofs.Lower.{cases_lt, Decides-ltb, Ends}
use Rattle.tp_words.specs.Ends.{fault_at, input_count, places}

small : (a : ℕ) (p : Bool) → (1 < a → p ≡ true) → p ≡ false → a ≤ 1
small a true more none = absurd (cc)
small a false more none = elim (cases_lt 1 a) [
  | inl low ↦ let bad = more low in absurd (cc)
  | inr high ↦ high
]

at_most_one : (a : ℕ) → nat_lt 1 a ≡ false → a ≤ 1
at_most_one a none = small a (nat_lt 1 a) ((Decides-ltb 1 a).1) none

neither : {F : Type 0} (p q : Bool) (x y : F) → (if p then Some x else if q then Some y else None) ≡ None → (p ≡ false) × (q ≡ false)
neither true q x y none = absurd (cc)
neither false true x y none = absurd (cc)
neither false false x y none = (refl, refl)

-- if nothing is wrong at a port, it has one place for its output and one input at most
pub nothing_at : (ends : Ends) (port : ℕ) → fault_at ends port ≡ None → (places ends port ≤ 1) × (input_count ends port ≤ 1)
nothing_at ends port none =
    let both = neither (nat_lt 1 (places ends port)) (nat_lt 1 (input_count ends port)) _ _ none in
    (at_most_one _ both.0, at_most_one _ both.1)
